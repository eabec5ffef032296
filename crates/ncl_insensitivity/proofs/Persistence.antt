-- What is enabled stays so until it is done.
use Rattle.ncl_insensitivity.proofs.Terms.{Bool, Cell, CellAt, CellId, Fire, IsCellOf, IsExcited, IsPersistent, Item, Layout, List, Lower, Member, Nets, PipelineData, Rails, Raise, ReadsNew, Ready, StageCell, State, Take, after_lower, and_from, ap, arith, bit_at, both_ways, cases_eq, current_rails, data-same, differ, differ-itself, enabled, even, false, fired, gate-listed, has_data, has_value, if◌then◌else◌, in_bit, in_rail, in_stage, in_tree, inl, inr, is_data, is_excited, is_null, ki-listed, list_all, list_all-member, local, local-put_here, local-put_other, next_value, not, not-not, not-true, not_from_false, not_from_true, not_itself, old_is_turning, or_cases, or_from, or_left, or_parts, or_right, out-listed, out_of, out_rail, output-no_ki, output-no_source, outputs-listed, rail-is_one, rail-listed, reads-more, refl, root-listed, same_place, slice_get, source-no_ki, stage_nets, step, subst, suc, sym, tree-listed, true, width, with_net, with_net-elsewhere, with_net-here, with_net-keeps, ℕ, ◌&&◌, ◌+◌, ◌<◌, ◌||◌, ◌∙◌, ◌≡◌, ◌≢◌, ◌≤◌, ◌⊎◌}
use Rattle.ncl_insensitivity.proofs.StepValues.{current-rail, gate-excitation, gate-step, lower-step, rail-put, raise-step, register-excited, register-step, tree-step}
use Rattle.ncl_insensitivity.proofs.MoveOf.{Acknowledges, HasInvariant, IsRegisterMove, IsSetting, IsSourceMove, IsTreeMove, Move, Waves, all-more, data-other, gate, gate-no_rail, gate_stays, ki-value, lower, lower_last, move_of, moved, own-current, raise, raise_last, ready, register, rising, root, root-value, source_is_old, take, tree, word_in}

-- ---- the net that a move turns, and what stays as it is

module _ {p : PipelineData} {l : Layout} {w : Waves} {offered : List (List Bool)} (set : IsSetting p l w offered) {s : State} (k : HasInvariant l w offered s) where
  -- a net of stage j goes to the value of its wave; a net of tree j to the other
  abbrev pub TurnsInStage : Item → ℕ → ℕ → Type 0
  TurnsInStage item j net = (s.value net ≡ not (rising k.numbers j)) × ((step p s item).value ≡ with_net s.value net (rising k.numbers j))

  abbrev pub TurnsInTree : Item → ℕ → ℕ → Type 0
  TurnsInTree item j net = (s.value net ≡ rising k.numbers j) × ((step p s item).value ≡ with_net s.value net (not (rising k.numbers j)))

  -- what an item turns: a gate, a rail of a bank or of the source, or a net of a tree, and where that is the root
  -- its bank acknowledges
  pub data Turns (item : Item) : Type 0 where
    a_gate : (j : ℕ) (g : StageCell) → j ≤ l.last → Member g (l.stage j).cells → TurnsInStage item j (out_of g) → Turns item
    a_rail : (j b : ℕ) (r : Bool) → j ≤ l.last → b < width l j → has_data (in_stage l s.value j) (in_bit l j b) ≡ not (even (k.numbers j))
        → TurnsInStage item j (in_rail l j b r) → Turns item
    a_tree_net : (j net : ℕ) → j ≤ l.last → Member net (l.tree_nets j)
        → (net ≡ l.root j → Acknowledges l w (in_stage l s.value) (in_tree l s.value) k.numbers j) → TurnsInTree item j net → Turns item

  -- the source turns a rail of bank 0
  source-turns : (item : Item) (b : ℕ) → IsSourceMove l w s k.numbers b → (step p s item).value ≡ moved l w s k.numbers b → Turns item
  source-turns item b move is = a_rail 0 b (bit_at (word_in w k.numbers 0) b) (omega arith) move.within (source_is_old set k move) (move.old, is)

  -- every move is so
  pub turns_of : (item : Item) → Move p l w s k.numbers item → Turns item
  turns_of item (gate i cell j g at le m is excited) = a_gate j g le m (gate-step set k i cell j g at le m is excited)
  turns_of item (register i cell j b r at move) =
      a_rail (suc j) b r move.within move.bit (move.old ∙ ap (λ t. not (even t)) (sym move.same)) (move.waits, register-step set k i cell j b r at move)
  turns_of item (tree i cell j at move inner) =
      a_tree_net j cell.out.0 (let lt = move.within in omega (arith, lt)) (tree-listed set.layout j cell move.within move.listed)
      (λ e. absurd (inner e)) (move.old, tree-step set k i cell j at move)
  turns_of item (root i cell j at move is_root acks) =
      a_tree_net j cell.out.0 (let lt = move.within in omega (arith, lt))
      (tree-listed set.layout j cell move.within move.listed) (λ e. acks) (move.old, tree-step set k i cell j at move)
  turns_of item (raise b move rises ev some) = source-turns (Raise b) b move (raise-step set k b move ev)
  turns_of item (raise_last b move rises ev all) = source-turns (Raise b) b move (raise-step set k b move ev)
  turns_of item (lower b move falls od some) = source-turns (Lower b) b move (lower-step set k b move od)
  turns_of item (lower_last b move falls od all) = source-turns (Lower b) b move (lower-step set k b move od)
  turns_of item (take ev some acks) =
      a_tree_net l.last p.ki (omega arith) (ki-listed set.layout) (λ e. acks) (ki-value set k, ap (with_net s.value p.ki) (sym (not_from_true _ ev)))
  turns_of item (ready od none acks) =
      a_tree_net l.last p.ki (omega arith) (ki-listed set.layout) (λ e. acks) (ki-value set k, ap (with_net s.value p.ki) (sym (not_from_false _ od)))

  -- ---- who moves: a cell, whose output turns, the source, or the sink

  pub data Mover (item : Item) : Type 0 where
    a_cell : (i : CellId) (cell : Cell) → CellAt p.netlist i.0 cell → item ≡ Fire i
        → (step p s item).value ≡ with_net s.value cell.out.0 (next_value s.value cell) → Mover item
    the_source : (b : ℕ) → IsSourceMove l w s k.numbers b → (item ≡ Raise b) × (s.falling ≡ false) ⊎ (item ≡ Lower b) × (s.falling ≡ true)
        → (step p s item).value ≡ moved l w s k.numbers b → Mover item
    the_sink : (value : Bool) → (item ≡ Take) × (rising k.numbers l.last ≡ true) ⊎ (item ≡ Ready) × (rising k.numbers l.last ≡ false)
        → (step p s item).value ≡ with_net s.value p.ki value → Mover item

  -- every move is one of theirs
  pub mover_of : (item : Item) → Move p l w s k.numbers item → Mover item
  mover_of item (gate i cell j g at le m is excited) = a_cell i cell at refl (ap (fired s.value) at)
  mover_of item (register i cell j b r at move) = a_cell i cell at refl (ap (fired s.value) at)
  mover_of item (tree i cell j at move inner) = a_cell i cell at refl (ap (fired s.value) at)
  mover_of item (root i cell j at move is_root acks) = a_cell i cell at refl (ap (fired s.value) at)
  mover_of item (raise b move rises ev some) = the_source b move (inl (refl, rises)) (raise-step set k b move ev)
  mover_of item (raise_last b move rises ev all) = the_source b move (inl (refl, rises)) (raise-step set k b move ev)
  mover_of item (lower b move falls od some) = the_source b move (inr (refl, falls)) (lower-step set k b move od)
  mover_of item (lower_last b move falls od all) = the_source b move (inr (refl, falls)) (lower-step set k b move od)
  mover_of item (take ev some acks) = the_sink false (inl (refl, ev)) refl
  mover_of item (ready od none acks) = the_sink true (inr (refl, od)) refl

  -- the output of another cell stays
  pub output-stays : (item : Item) (i : CellId) (cell : Cell) → CellAt p.netlist i.0 cell → Fire i ≢ item → Mover item
      → (step p s item).value cell.out.0 ≡ s.value cell.out.0
  output-stays item i cell at differs (a_cell other its at_other e is) =
      ap (λ v. v cell.out.0) is ∙ with_net-elsewhere s.value its.out.0 cell.out.0 (next_value s.value its) (λ same.
      let places : i.0 ≡ other.0 = same_place p.netlist set.netlist i.0 other.0 cell its at at_other (sym same) in
      differs (ap (λ (x : ℕ). Fire (record { 0 = x })) places ∙ sym e))
  output-stays item i cell at differs (the_source b move which is) =
      ap (λ v. v cell.out.0) is
      ∙ with_net-elsewhere s.value _ cell.out.0 (rising k.numbers 0) (output-no_source set.layout cell (set.layout.part_of i.0 cell at) b _ move.within)
  output-stays item i cell at differs (the_sink value which is) =
      ap (λ v. v cell.out.0) is ∙ with_net-elsewhere s.value p.ki cell.out.0 value (output-no_ki set.layout cell (set.layout.part_of i.0 cell at))

  -- ---- what stays

  -- a net of a stage that has the value of its wave
  pub stage-stays : (item : Item) → Turns item → (i net : ℕ) → i ≤ l.last → Member net (stage_nets l i) → s.value net ≡ rising k.numbers i
      → (step p s item).value net ≡ s.value net
  stage-stays item turns i net le listed has = by_net turns
    where
      by_stage : (j x : ℕ) → j ≤ l.last → Member x (stage_nets l j) → TurnsInStage item j x → (step p s item).value net ≡ s.value net
      by_stage j x lj mx (was, is) = ap (λ v. v net) is ∙ with_net-elsewhere s.value x net (rising k.numbers j) (λ e.
          let same : j ≡ i = set.layout.stages_apart j i net lj le (subst (λ y. Member y (stage_nets l j)) e mx) listed in
          not_itself (rising k.numbers i) (sym has ∙ ap s.value (sym e) ∙ was ∙ ap (λ t. not (rising k.numbers t)) same))

      by_net : Turns item → (step p s item).value net ≡ s.value net
      by_net (a_gate j g lj m turns) = by_stage j (out_of g) lj (gate-listed (l.stage j) g m) turns
      by_net (a_rail j b r lj lt old turns) = by_stage j (in_rail l j b r) lj (rail-listed (l.stage j) b r lt) turns
      by_net (a_tree_net j x lj mx acks (was, is)) =
          ap (λ v. v net) is
          ∙ with_net-elsewhere s.value x net (not (rising k.numbers j)) (λ e. set.layout.apart i j net le lj listed (subst (λ y. Member y (l.tree_nets j)) e mx))

  -- a root, except where its bank acknowledges
  pub root-stays : (item : Item) → Turns item → (j : ℕ) → j ≤ l.last
      → ((step p s item).value (l.root j) ≡ s.value (l.root j)) ⊎ Acknowledges l w (in_stage l s.value) (in_tree l s.value) k.numbers j
  root-stays item turns j le = by_net turns
    where
      by_stage : (i x : ℕ) → i ≤ l.last → Member x (stage_nets l i) → TurnsInStage item i x → (step p s item).value (l.root j) ≡ s.value (l.root j)
      by_stage i x li mx (was, is) = ap (λ v. v (l.root j)) is ∙ with_net-elsewhere s.value x (l.root j) (rising k.numbers i) (λ e.
          set.layout.apart i j (l.root j) li le (subst (λ y. Member y (stage_nets l i)) e mx) (root-listed set.layout j le))

      by_net : Turns item
          → ((step p s item).value (l.root j) ≡ s.value (l.root j)) ⊎ Acknowledges l w (in_stage l s.value) (in_tree l s.value) k.numbers j
      by_net (a_gate i g li m turns) = inl (by_stage i (out_of g) li (gate-listed (l.stage i) g m) turns)
      by_net (a_rail i b r li lt old turns) = inl (by_stage i (in_rail l i b r) li (rail-listed (l.stage i) b r lt) turns)
      by_net (a_tree_net i x li mx acks (was, is)) = elim (cases_eq x (l.root j)) [
        | inr apart ↦ inl (ap (λ v. v (l.root j)) is ∙ with_net-elsewhere s.value x (l.root j) (not (rising k.numbers i)) apart)
        | inl e ↦
            let same : i ≡ j = set.layout.trees_apart i j (l.root j) li le (subst (λ y. Member y (l.tree_nets i)) e mx) (root-listed set.layout j le) in
            inr (subst (Acknowledges l w (in_stage l s.value) (in_tree l s.value) k.numbers) same (acks (e ∙ ap l.root (sym same))))
      ]

  -- a bit of a bank that is new to the bank's wave
  pub bit-stays : (item : Item) → Turns item → (j b : ℕ) → j ≤ l.last → b < width l j
      → has_data (in_stage l s.value j) (in_bit l j b) ≡ even (k.numbers j)
      → has_data (in_stage l (step p s item).value j) (in_bit l j b) ≡ even (k.numbers j)
  bit-stays item turns j b le lt new = by_net turns
    where
      elsewhere : (net : ℕ) (value : Bool) → (step p s item).value ≡ with_net s.value net value → (Member net (stage_nets l j) → ⊥)
          → has_data (in_stage l (step p s item).value j) (in_bit l j b) ≡ even (k.numbers j)
      elsewhere net value is none =
          ap (λ v. has_data v (in_bit l j b)) (ap (local (stage_nets l j)) is ∙ local-put_other (stage_nets l j) s.value net value none) ∙ new

      by_net : Turns item → has_data (in_stage l (step p s item).value j) (in_bit l j b) ≡ even (k.numbers j)
      by_net (a_tree_net i x li mx acks (was, is)) = elsewhere x (not (rising k.numbers i)) is (λ n. set.layout.apart j i x le li n mx)
      by_net (a_gate i g li m (was, is)) = elim (cases_eq i j) [
        | inr apart ↦ elsewhere (out_of g) (rising k.numbers i) is (λ n. apart (set.layout.stages_apart i j (out_of g) li le (gate-listed (l.stage i) g m) n))
        | inl same ↦
            let own : Member g (l.stage j).cells = subst (λ x. Member g (l.stage x).cells) same m in
            let now =
            ap (local (stage_nets l j)) is ∙ local-put_here (stage_nets l j) s.value (out_of g) (rising k.numbers i) (gate-listed (l.stage j) g own) in
            let rail = gate-no_rail (set.layout.is_stage j le) (in_stage l s.value j) (rising k.numbers i) g own b in
            ap (λ v. has_data v (in_bit l j b)) now
            ∙ data-same (in_stage l s.value j) (with_net (in_stage l s.value j) (out_of g) (rising k.numbers i)) (in_bit l j b) (rail false lt) (rail true lt)
            ∙ new
      ]
      by_net (a_rail i a r li within old (was, is)) = elim (cases_eq i j) [
        | inr apart ↦
            elsewhere (in_rail l i a r) (rising k.numbers i) is (λ n. apart (set.layout.stages_apart i j (in_rail l i a r) li le (rail-listed (l.stage i) a r within) n))
        | inl same ↦
            own_rail (subst (λ x. a < width l x) same within) (subst (λ x. has_data (in_stage l s.value x) (in_bit l x a) ≡ not (even (k.numbers x))) same old)
            (is ∙ ap (λ x. with_net s.value (in_rail l x a r) (rising k.numbers x)) same)
      ]
        where
          own_rail : a < width l j → has_data (in_stage l s.value j) (in_bit l j a) ≡ not (even (k.numbers j))
              → (step p s item).value ≡ with_net s.value (in_rail l j a r) (rising k.numbers j)
              → has_data (in_stage l (step p s item).value j) (in_bit l j b) ≡ even (k.numbers j)
          own_rail la old is =
              let now =
              ap (local (stage_nets l j)) is
              ∙ local-put_here (stage_nets l j) s.value (in_rail l j a r) (rising k.numbers j) (rail-listed (l.stage j) a r la) in
              let differs : a ≡ b → ⊥ =
              λ e. not_itself (even (k.numbers j)) (sym new ∙ ap (λ x. has_data (in_stage l s.value j) (in_bit l j x)) (sym e) ∙ old) in
              ap (λ v. has_data v (in_bit l j b)) now
              ∙ data-other (set.layout.is_stage j le) (in_stage l s.value j) (rising k.numbers j) a b r la lt differs ∙ new

-- ---- no cell that is excited loses its excitation to another move

module _ {p : PipelineData} {l : Layout} {w : Waves} {offered : List (List Bool)} (set : IsSetting p l w offered) {s : State} (k : HasInvariant l w offered s) (item : Item) (turns : Turns set k item) (mover : Mover set k item) where
  -- the values after the item
  abbrev now : Nets
  now = (step p s item).value

  -- ---- a gate of a stage

  pub gate-stays : (i : CellId) (cell : Cell) (j : ℕ) (g : StageCell) → Fire i ≢ item → CellAt p.netlist i.0 cell → j ≤ l.last
      → Member g (l.stage j).cells → IsCellOf cell g → IsExcited (in_stage l s.value j) g → enabled p (step p s item) (Fire i) ≡ true
  gate-stays i cell j g differs at le m is excited = ap (is_excited now) at ∙ gate-excitation (set.layout.is_stage j le) now cell g m is ∙ still turns
    where
      own : (step p s item).value (out_of g) ≡ s.value (out_of g)
      own = ap now (sym is.out) ∙ output-stays set k item i cell at differs mover ∙ ap s.value is.out

      -- a net of a stage turns, of its own or of another
      by_stage : (i net : ℕ) → i ≤ l.last → Member net (stage_nets l i) → TurnsInStage set k item i net
          → IsExcited (in_stage l (step p s item).value j) g
      by_stage i net li mx (was, is) = elim (cases_eq i j) [
        | inr apart ↦
            subst (λ v. IsExcited v g)
            (sym (ap (local (stage_nets l j)) is ∙ local-put_other (stage_nets l j) s.value net (rising k.numbers i) (λ n. apart (set.layout.stages_apart i j net li le mx n)))) excited
        | inl same ↦
            let listed : Member net (stage_nets l j) = subst (λ x. Member net (stage_nets l x)) same mx in
            let view : in_stage l now j ≡ with_net (in_stage l s.value j) net (rising k.numbers j) =
            ap (local (stage_nets l j)) (is ∙ ap (λ x. with_net s.value net (rising k.numbers x)) same)
            ∙ local-put_here (stage_nets l j) s.value net (rising k.numbers j) listed in
            subst (λ v. IsExcited v g) (sym view)
            (gate_stays (set.layout.is_stage j le) (rising k.numbers j) (k.nets.phases j le) g m excited net (λ e.
            not_itself (rising k.numbers i) (sym (with_net-here s.value net (rising k.numbers i)) ∙ sym (ap (λ v. v net) is) ∙ ap now e ∙ own ∙ ap s.value (sym e) ∙ was)))
      ]

      still : Turns set k item → IsExcited (in_stage l (step p s item).value j) g
      still (a_gate i h li n turn) = by_stage i (out_of h) li (gate-listed (l.stage i) h n) turn
      still (a_rail i b r li lt old turn) = by_stage i (in_rail l i b r) li (rail-listed (l.stage i) b r lt) turn
      still (a_tree_net i net li mx acks (was, is)) =
          subst (λ v. IsExcited v g)
          (sym (ap (local (stage_nets l j)) is ∙ local-put_other (stage_nets l j) s.value net (not (rising k.numbers i)) (λ n. set.layout.apart j i net le li n mx))) excited

  -- ---- a register cell

  pub register-stays : (i : CellId) (cell : Cell) (j b : ℕ) (r : Bool) → Fire i ≢ item → CellAt p.netlist i.0 cell
      → IsRegisterMove l w s k.numbers j b r cell → enabled p (step p s item) (Fire i) ≡ true
  register-stays i cell j b r differs at move =
      ap (is_excited now) at
      ∙ register-excited now cell (out_rail l j b r) (l.root (suc j)) (in_rail l (suc j) b r) move.on
      (rising k.numbers (suc j)) a_now (b_now (root-stays set k item turns (suc j) move.within)) z_now
    where
      wave : rising k.numbers (suc j) ≡ rising k.numbers j
      wave = ap even (sym move.same)

      a_now : (step p s item).value (out_rail l j b r) ≡ rising k.numbers (suc j)
      a_now =
          stage-stays set k item turns j (out_rail l j b r) (let lt = move.within in omega (arith, lt)) (out-listed set.layout j b r move.within move.bit) (move.ready ∙ wave)
          ∙ move.ready

      -- the next bank doesn't acknowledge before the bit is new
      b_now : ((step p s item).value (l.root (suc j)) ≡ s.value (l.root (suc j))) ⊎ Acknowledges l w (in_stage l s.value) (in_tree l s.value) k.numbers (suc j)
          → (step p s item).value (l.root (suc j)) ≡ rising k.numbers (suc j)
      b_now (inl same) = same ∙ root-value set k (suc j) move.within
      b_now (inr acks) = absurd (not_itself (rising k.numbers (suc j)) (sym (not-not _) ∙ sym (acks.drawn.bank b move.bit) ∙ move.old))

      z_now : (step p s item).value (in_rail l (suc j) b r) ≡ not (rising k.numbers (suc j))
      z_now = ap now (sym move.on.out) ∙ output-stays set k item i cell at differs mover ∙ ap s.value move.on.out ∙ move.waits

  -- ---- a cell of a tree

  -- a net of a tree that is new
  tree_net-stays : (j net : ℕ) → j ≤ l.last → in_tree l s.value j net ≡ not (rising k.numbers j)
      → in_tree l (step p s item).value j net ≡ not (rising k.numbers j)
  tree_net-stays j net le new = by_net turns
    where
      elsewhere : (x : ℕ) (value : Bool) → (step p s item).value ≡ with_net s.value x value → (Member x (l.tree_nets j) → ⊥)
          → in_tree l (step p s item).value j net ≡ not (rising k.numbers j)
      elsewhere x value is none = ap (λ v. v net) (ap (local (l.tree_nets j)) is ∙ local-put_other (l.tree_nets j) s.value x value none) ∙ new

      by_net : Turns set k item → in_tree l (step p s item).value j net ≡ not (rising k.numbers j)
      by_net (a_gate i g li m (was, is)) =
          elsewhere (out_of g) (rising k.numbers i) is (λ n. set.layout.apart i j (out_of g) li le (gate-listed (l.stage i) g m) n)
      by_net (a_rail i b r li lt old (was, is)) =
          elsewhere (in_rail l i b r) (rising k.numbers i) is (λ n. set.layout.apart i j (in_rail l i b r) li le (rail-listed (l.stage i) b r lt) n)
      by_net (a_tree_net i x li mx acks (was, is)) = elim (cases_eq i j) [
        | inr apart ↦ elsewhere x (not (rising k.numbers i)) is (λ n. apart (set.layout.trees_apart i j x li le mx n))
        | inl same ↦
            let listed : Member x (l.tree_nets j) = subst (λ y. Member x (l.tree_nets y)) same mx in
            let view =
            ap (local (l.tree_nets j)) (is ∙ ap (λ y. with_net s.value x (not (rising k.numbers y))) same)
            ∙ local-put_here (l.tree_nets j) s.value x (not (rising k.numbers j)) listed in
            ap (λ v. v net) view ∙ with_net-keeps (in_tree l s.value j) x net (not (rising k.numbers j)) new
      ]

  pub tree-stays : (i : CellId) (cell : Cell) (j : ℕ) → Fire i ≢ item → CellAt p.netlist i.0 cell → IsTreeMove l s k.numbers j cell
      → enabled p (step p s item) (Fire i) ≡ true
  tree-stays i cell j differs at move =
      let le : j ≤ l.last = let lt = move.within in omega (arith, lt) in
      let reads : ReadsNew (in_stage l now (suc j)) (in_tree l now j) (rising k.numbers j) cell = reads-more set.layout j move.within (in_stage l now (suc j)) (in_tree l now j) cell move.listed
      (λ b within new. bit-stays set k item turns (suc j) b move.within within new) (λ net new. tree_net-stays j net le new) move.new in
      ap (is_excited now) at
      ∙ old_is_turning set.layout j move.within now (rising k.numbers j) cell move.listed (output-stays set k item i cell at differs mover ∙ move.old) reads

-- ---- no move of the source or the sink is taken back by another, and so the states of runs are persistent

module _ {p : PipelineData} {l : Layout} {w : Waves} {offered : List (List Bool)} (set : IsSetting p l w offered) {s : State} (k : HasInvariant l w offered s) where
  -- ---- the source

  -- the rail of a bit that the current word names
  abbrev own : ℕ → ℕ
  own b = in_rail l 0 b (bit_at (word_in w k.numbers 0) b)

  module _ {b : ℕ} (move : IsSourceMove l w s k.numbers b) where
    -- the first bank doesn't acknowledge before the source is a step ahead
    ko-stays : (item : Item) → Turns set k item → (step p s item).value p.ko ≡ rising k.numbers 0
    ko-stays item turns = ap (step p s item).value (sym set.layout.ko) ∙ by_root (root-stays set k item turns 0 (omega arith))
      where
        by_root : ((step p s item).value (l.root 0) ≡ s.value (l.root 0)) ⊎ Acknowledges l w (in_stage l s.value) (in_tree l s.value) k.numbers 0
            → (step p s item).value (l.root 0) ≡ rising k.numbers 0
        by_root (inl same) = same ∙ root-value set k 0 (omega arith)
        by_root (inr acks) = absurd (let ahead_of = acks.source refl in let same = move.same in omega (arith, ahead_of, same))

    -- a move of another bit leaves the bit's rail as it is
    other-rail : (a : ℕ) → a < width l 0 → (a ≡ b → ⊥) → moved l w s k.numbers a (own b) ≡ s.value (own b)
    other-rail a la apart =
        with_net-elsewhere s.value (own a) (own b) (rising k.numbers 0)
        (λ e. apart (rail-is_one (l.stage 0).inputs _ (set.layout.is_stage 0 (omega arith)).nets_differ a b _ _ la move.within e).0)

    -- so the bit's rail stays
    rail-stays : (item : Item) → Mover set k item
        → ((a : ℕ) → (item ≡ Raise a) × (s.falling ≡ false) ⊎ (item ≡ Lower a) × (s.falling ≡ true) → a ≡ b → ⊥)
        → (step p s item).value (own b) ≡ s.value (own b)
    rail-stays item (a_cell i cell at e is) apart =
        ap (λ v. v (own b)) is
        ∙ with_net-elsewhere s.value cell.out.0 (own b) (next_value s.value cell) (λ q. output-no_source set.layout cell (set.layout.part_of i.0 cell at) b _ move.within (sym q))
    rail-stays item (the_source a other which is) apart = ap (λ v. v (own b)) is ∙ other-rail a other.within (apart a which)
    rail-stays item (the_sink value which is) apart =
        ap (λ v. v (own b)) is ∙ with_net-elsewhere s.value p.ki (own b) value (λ q. source-no_ki set.layout b _ move.within (sym q))

    -- the rail's value, as the test of an item asks for it
    rail-value : (t : State) (value : Bool) → current_rails p t ≡ current_rails p s → t.value (own b) ≡ value
        → has_value t.value (slice_get (current_rails p t) b) value ≡ true
    rail-value t value rails is =
        ap (λ xs. has_value t.value (slice_get xs b) value) rails ∙ ap (λ o. has_value t.value o value) (current-rail set k b move)
        ∙ ap (λ x. not (differ x value)) is ∙ differ-itself value

    -- as long as the bit is old, the move of another is not the last of the word
    not_last : (a : ℕ) → IsSourceMove l w s k.numbers a → (a ≡ b → ⊥) → (test : Bool → Bool) → test (not (rising k.numbers 0)) ≡ false
        → list_all (λ net. test (moved l w s k.numbers a net)) (current_rails p s) ≡ true → ⊥
    not_last a other apart test fails all =
        both_ways _ (ap test (other-rail a other.within apart ∙ move.old) ∙ fails)
        (list_all-member (λ net. test (moved l w s k.numbers a net)) (current_rails p s) all (own b) (own-current set k move b move.within))

    -- so while the bit is old the source goes on raising its word
    raising-stays : (item : Item) → Raise b ≢ item → s.falling ≡ false → rising k.numbers 0 ≡ true → Move p l w s k.numbers item
        → ((step p s item).falling ≡ false) × (current_rails p (step p s item) ≡ current_rails p s)
    raising-stays item differs rises ev (gate i cell j g at le m is excited) = (rises, refl)
    raising-stays item differs rises ev (register i cell j a r at other) = (rises, refl)
    raising-stays item differs rises ev (tree i cell j at other inner) = (rises, refl)
    raising-stays item differs rises ev (root i cell j at other is_root acks) = (rises, refl)
    raising-stays item differs rises ev (raise a other low up some) =
        (ap (λ v. list_all v (current_rails p s)) (rail-put set k a true other up) ∙ some, refl)
    raising-stays item differs rises ev (raise_last a other low up all) =
        absurd (not_last a other (λ e. differs (ap Raise (sym e))) (λ x. x) (ap not ev) all)
    raising-stays item differs rises ev (lower a other falls od some) = absurd (both_ways s.falling rises falls)
    raising-stays item differs rises ev (lower_last a other falls od all) = absurd (both_ways s.falling rises falls)
    raising-stays item differs rises ev (take up some acks) = (rises, refl)
    raising-stays item differs rises ev (ready od none acks) = (rises, refl)

    -- or lowering it
    lowering-stays : (item : Item) → Lower b ≢ item → s.falling ≡ true → rising k.numbers 0 ≡ false → Move p l w s k.numbers item
        → ((step p s item).falling ≡ true) × (current_rails p (step p s item) ≡ current_rails p s)
    lowering-stays item differs falls od (gate i cell j g at le m is excited) = (falls, refl)
    lowering-stays item differs falls od (register i cell j a r at other) = (falls, refl)
    lowering-stays item differs falls od (tree i cell j at other inner) = (falls, refl)
    lowering-stays item differs falls od (root i cell j at other is_root acks) = (falls, refl)
    lowering-stays item differs falls od (raise a other rises ev some) = absurd (both_ways s.falling rises falls)
    lowering-stays item differs falls od (raise_last a other rises ev all) = absurd (both_ways s.falling rises falls)
    lowering-stays item differs falls od (lower a other down low some) =
        let after : step p s (Lower a) ≡ record s { value = moved l w s k.numbers a } =
        ap (after_lower p s) (rail-put set k a false other low)
        ∙ ap (λ x. if x then record s { value = moved l w s k.numbers a; falling = false; done = s.done + 1 } else record s { value = moved l w s k.numbers a }) some in
        (ap (λ (t : State). t.falling) after ∙ falls, ap (current_rails p) after)
    lowering-stays item differs falls od (lower_last a other down low all) =
        absurd (not_last a other (λ e. differs (ap Lower (sym e))) not (ap (λ x. not (not x)) od) all)
    lowering-stays item differs falls od (take ev some acks) = (falls, refl)
    lowering-stays item differs falls od (ready low none acks) = (falls, refl)

    pub raise-stays : (item : Item) → Raise b ≢ item → s.falling ≡ false → rising k.numbers 0 ≡ true → Move p l w s k.numbers item
        → enabled p (step p s item) (Raise b) ≡ true
    raise-stays item differs rises ev m =
        let (still, rails) = raising-stays item differs rises ev m in
        and_from (not (step p s item).falling && (step p s item).value p.ko) _
        (and_from (not (step p s item).falling) _ (ap not still) (ko-stays item (turns_of set k item m) ∙ ev))
        (rail-value (step p s item) false rails (rail-stays item (mover_of set k item m) apart ∙ move.old ∙ ap not ev))
      where
        apart : (a : ℕ) → (item ≡ Raise a) × (s.falling ≡ false) ⊎ (item ≡ Lower a) × (s.falling ≡ true) → a ≡ b → ⊥
        apart a (inl (e, low)) same = differs (ap Raise (sym same) ∙ sym e)
        apart a (inr (e, falls)) same = both_ways s.falling rises falls

    pub lower-stays : (item : Item) → Lower b ≢ item → s.falling ≡ true → rising k.numbers 0 ≡ false → Move p l w s k.numbers item
        → enabled p (step p s item) (Lower b) ≡ true
    lower-stays item differs falls od m =
        let (still, rails) = lowering-stays item differs falls od m in
        and_from ((step p s item).falling && not ((step p s item).value p.ko)) _
        (and_from (step p s item).falling _ still (ap not (ko-stays item (turns_of set k item m) ∙ od)))
        (rail-value (step p s item) true rails (rail-stays item (mover_of set k item m) apart ∙ move.old ∙ ap not od))
      where
        apart : (a : ℕ) → (item ≡ Raise a) × (s.falling ≡ false) ⊎ (item ≡ Lower a) × (s.falling ≡ true) → a ≡ b → ⊥
        apart a (inl (e, rises)) same = both_ways s.falling rises falls
        apart a (inr (e, high)) same = differs (ap Lower (sym same) ∙ sym e)

  -- ---- the sink

  -- the sink's acknowledge moves with Take and Ready alone
  ki-stays : (item : Item) → ((item ≡ Take) × (rising k.numbers l.last ≡ true) ⊎ (item ≡ Ready) × (rising k.numbers l.last ≡ false) → ⊥)
      → Mover set k item → (step p s item).value p.ki ≡ s.value p.ki
  ki-stays item other (a_cell i cell at e is) =
      ap (λ v. v p.ki) is
      ∙ with_net-elsewhere s.value cell.out.0 p.ki (next_value s.value cell) (λ q. output-no_ki set.layout cell (set.layout.part_of i.0 cell at) (sym q))
  ki-stays item other (the_source b move which is) =
      ap (λ v. v p.ki) is ∙ with_net-elsewhere s.value (own b) p.ki (rising k.numbers 0) (source-no_ki set.layout b _ move.within)
  ki-stays item other (the_sink value which is) = absurd (other which)

  -- an output that has the value of the last wave
  last_output-stays : (item : Item) → Turns set k item → (net : ℕ) → Member net (stage_nets l l.last) → (value : Bool)
      → rising k.numbers l.last ≡ value → s.value net ≡ value → (step p s item).value net ≡ value
  last_output-stays item turns net listed value wave has = stage-stays set k item turns l.last net (omega arith) listed (has ∙ sym wave) ∙ has

  -- outputs that all have data keep it in an even wave, and those that are NULL stay so in an odd one
  data-stays : (item : Item) → Turns set k item → rising k.numbers l.last ≡ true → is_data p.outputs s.value ≡ true
      → is_data p.outputs (step p s item).value ≡ true
  data-stays item turns ev all =
      subst (λ bits. is_data bits (step p s item).value ≡ true) set.layout.sink
      (all-more (λ (r : Rails). s.value r.zero.0 || s.value r.one.0) (λ (r : Rails). (step p s item).value r.zero.0 || (step p s item).value r.one.0) (l.stage l.last).outputs
      (λ r n some. let (zero_in, one_in) = outputs-listed (set.layout.is_stage l.last (omega arith)) r n in
      elim (or_cases (s.value r.zero.0) (s.value r.one.0) some) [
        | inl high ↦ or_left ((step p s item).value r.zero.0) ((step p s item).value r.one.0) (last_output-stays item turns r.zero.0 zero_in true ev high)
        | inr high ↦ or_right ((step p s item).value r.zero.0) ((step p s item).value r.one.0) (last_output-stays item turns r.one.0 one_in true ev high)
      ])
      (subst (λ bits. is_data bits s.value ≡ true) (sym set.layout.sink) all))

  null-stays : (item : Item) → Turns set k item → rising k.numbers l.last ≡ false → is_null p.outputs s.value ≡ true
      → is_null p.outputs (step p s item).value ≡ true
  null-stays item turns od all =
      subst (λ bits. is_null bits (step p s item).value ≡ true) set.layout.sink
      (all-more (λ (r : Rails). not (s.value r.zero.0 || s.value r.one.0)) (λ (r : Rails). not ((step p s item).value r.zero.0 || (step p s item).value r.one.0)) (l.stage l.last).outputs
      (λ r n none. let (zero_in, one_in) = outputs-listed (set.layout.is_stage l.last (omega arith)) r n in
      let (zero_low, one_low) = or_parts (s.value r.zero.0) (s.value r.one.0) (not-true _ none) in
      not_from_false _ (or_from _ _ (last_output-stays item turns r.zero.0 zero_in false od zero_low) (last_output-stays item turns r.one.0 one_in false od one_low)))
      (subst (λ bits. is_null bits s.value ≡ true) (sym set.layout.sink) all))

  take-stays : (item : Item) → Take ≢ item → rising k.numbers l.last ≡ true → is_data p.outputs s.value ≡ true → Turns set k item
      → Mover set k item → enabled p (step p s item) Take ≡ true
  take-stays item differs ev all turns mover =
      and_from ((step p s item).value p.ki) _ (ki-stays item other mover ∙ ki-value set k ∙ ev) (data-stays item turns ev all)
    where
      other : (item ≡ Take) × (rising k.numbers l.last ≡ true) ⊎ (item ≡ Ready) × (rising k.numbers l.last ≡ false) → ⊥
      other (inl (e, up)) = differs (sym e)
      other (inr (e, od)) = both_ways (rising k.numbers l.last) od ev

  ready-stays : (item : Item) → Ready ≢ item → rising k.numbers l.last ≡ false → is_null p.outputs s.value ≡ true → Turns set k item
      → Mover set k item → enabled p (step p s item) Ready ≡ true
  ready-stays item differs od all turns mover =
      and_from (not ((step p s item).value p.ki)) _ (ap not (ki-stays item other mover ∙ ki-value set k ∙ od)) (null-stays item turns od all)
    where
      other : (item ≡ Take) × (rising k.numbers l.last ≡ true) ⊎ (item ≡ Ready) × (rising k.numbers l.last ≡ false) → ⊥
      other (inl (e, ev)) = both_ways (rising k.numbers l.last) od ev
      other (inr (e, low)) = differs (sym e)

  -- ---- any move

  move-stays : (item other : Item) → other ≢ item → Move p l w s k.numbers item → Move p l w s k.numbers other → enabled p (step p s item) other ≡ true
  move-stays item other differ m (gate i cell j g at le listed is excited) =
      gate-stays set k item (turns_of set k item m) (mover_of set k item m) i cell j g differ at le listed is excited
  move-stays item other differ m (register i cell j b r at move) =
      register-stays set k item (turns_of set k item m) (mover_of set k item m) i cell j b r differ at move
  move-stays item other differ m (tree i cell j at move inner) =
      tree-stays set k item (turns_of set k item m) (mover_of set k item m) i cell j differ at move
  move-stays item other differ m (root i cell j at move is_root acks) =
      tree-stays set k item (turns_of set k item m) (mover_of set k item m) i cell j differ at move
  move-stays item other differ m (raise b move rises ev some_low) = raise-stays move item differ rises ev m
  move-stays item other differ m (raise_last b move rises ev all_high) = raise-stays move item differ rises ev m
  move-stays item other differ m (lower b move falls od some_high) = lower-stays move item differ falls od m
  move-stays item other differ m (lower_last b move falls od all_low) = lower-stays move item differ falls od m
  move-stays item other differ m (take ev all acks) = take-stays item differ ev all (turns_of set k item m) (mover_of set k item m)
  move-stays item other differ m (ready od none acks) = ready-stays item differ od none (turns_of set k item m) (mover_of set k item m)

  pub kept-persistent : IsPersistent p s
  kept-persistent item other differ first second = move-stays item other (λ e. differ (sym e)) (move_of set k item first) (move_of set k other second)
