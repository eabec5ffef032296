-- Each step keeps the invariant, and no step is unsafe.
use Rattle.ncl_insensitivity.proofs.Terms.{All-contains, AreNear, Base, Bool, Carries, Cell, CellAt, CellId, Contains-from_Member, Fire, Follows, IsExcited, IsLayoutOf, IsRunFrom, Item, Layout, List, Member, Nets, Pair, Part, PipelineData, Rails, ReadsNew, Some, StageCell, State, [], after, after_lower, after_raise, ahead, all-local, and_parts, ap, arith, behind, bit_at, both_ways, cases_eq, current_rails, data-same, data_in_values, equal, even, false, false_from_ne_true, fired, gate-listed, half, half-given, has_data, if◌then◌else◌, in_bit, in_rail, in_stage, in_tree, inl, inr, is_data, is_illegal, legal-below, length, length-append, list_all, local-at, map-map, map-same, near-map, near-numbers, next_value, not, not-false, not-from_one, not-not, not_from_false, not_from_true, not_itself, one_cell, one_if, one_if-most, out_of, out_rail, output-no_ki, output-no_source, pair_at, place-here, place-other, push_cases, rail-data, rail-is_one, rail-listed, reads-more, refl, root-listed, slice_get, some-rail, source-no_ki, stage_function, stage_nets, step, subst, suc, sym, tree-listed, true, val, width, with_net, with_net-elsewhere, with_net-here, with_net-keeps, with_net-lowered, with_net-raised, zero, ℕ, ◌&&◌, ◌*◌, ◌++◌, ◌+◌, ◌<◌, ◌∙◌, ◌∷◌, ◌≡◌, ◌≢◌, ◌≤◌}
pub use Rattle.ncl_insensitivity.proofs.MoveOf.{all_lowered, all_raised, comes_whole, drawn_by_bank, move_of, not_done, some_high, some_low, source_is_ahead, source_is_old}
pub use Rattle.ncl_insensitivity.proofs.Invariant.{Acknowledges, AreAt, AreEnds, AreKept, Changes, HasInvariant, IsPhase, IsSetting, IsSourceMove, Move, Waves, data-moved, data-other, gate, gate-no_rail, gate_moves, in-local, legal_output, lower, lower_last, moved, next_at, numbers_after, out-local, output_is, outputs-local, rail_moves, rail_named, raise, raise_last, ready, register, rising, root, root-value, same-kept, sink-same, stage_changes, take, tree, tree_changes, turns_down, up_empty, word_in}
pub use Rattle.ncl_insensitivity.proofs.StepValues.{alternates, gate-step, lower-step, rail-put, raise-step, register-step, tree-step}

-- ---- what the sink takes: the word of its wave, in dual-rail form

module _ {p : PipelineData} {l : Layout} {w : Waves} {offered : List (List Bool)} (set : IsSetting p l w offered) {s : State} (k : HasInvariant l w offered s) (ev : rising k.numbers l.last ≡ true) (some : is_data p.outputs s.value ≡ true) where
  -- the last stage has settled at this word
  abbrev word : List Bool
  word = word_in w k.numbers l.last

  abbrev outputs : List Rails
  outputs = (l.stage l.last).outputs

  abbrev top : ℕ → Bool
  top = val (l.stage l.last) word Base

  is_wide : length word ≡ length (l.stage l.last).inputs
  is_wide = set.waves.wide _ l.last (omega arith)

  settled : (net : ℕ) → in_stage l s.value l.last net ≡ top net
  settled = (turns_down (set.layout.is_stage l.last (omega arith)) _ (set.sound _ l.last (omega arith)) is_wide
      (subst (λ e. IsPhase (l.stage l.last) e word (in_stage l s.value l.last)) ev (k.nets.phases l.last (omega arith)))
      (comes_whole set k.nets l.last (omega arith) ev)
      (all-local has_data (stage_nets l l.last) s.value outputs (sink-same set s.value) (subst (λ bits. is_data bits s.value ≡ true) (sym set.layout.sink) some))).1

  one_is : (r : Rails) → Member r outputs → s.value r.one.0 ≡ top r.one.0
  one_is r m = sym (outputs-local set s.value l.last r (omega arith) m).1 ∙ settled r.one.0

  zero_is : (r : Rails) → Member r outputs → s.value r.zero.0 ≡ not (top r.one.0)
  zero_is r m =
      let legal =
      All-contains (λ (r : Rails). is_illegal top r ≡ false) outputs r (legal-below (l.stage l.last) word (set.sound _ l.last (omega arith)) top (λ net h. h)) (Contains-from_Member r m) in
      let full = data_in_values (l.stage l.last) word (set.sound _ l.last (omega arith)) r m in
      sym (outputs-local set s.value l.last r (omega arith) m).0 ∙ settled r.zero.0 ∙ not-from_one _ _ full legal

  -- so where the outputs have data in an even wave, the pair taken is the word at the sink
  pub taken-carries : Carries (w.word (half (k.numbers (suc l.last))) (suc l.last)) (pair_at p.outputs s.value)
  taken-carries =
      let law : w.word (half (k.numbers (suc l.last))) (suc l.last) ≡ stage_function (l.stage l.last) word =
      set.waves.law (half (k.numbers (suc l.last))) l.last (omega arith) (let none = set.waves.last in omega (arith, none)) in
      subst (λ x. Carries x (pair_at p.outputs s.value)) (sym law)
      (subst (λ bits. Carries (stage_function (l.stage l.last) word) (pair_at bits s.value)) set.layout.sink (record {
        ones = map-same (λ (r : Rails). s.value r.one.0) (λ (r : Rails). top r.one.0) outputs one_is;
        zeros = map-same (λ (r : Rails). s.value r.zero.0) (λ (r : Rails). not (top r.one.0)) outputs zero_is ∙ sym (map-map not (λ (r : Rails). top r.one.0) outputs);
      }))

-- ---- each move keeps the invariant of the two ends

module _ {p : PipelineData} {l : Layout} {w : Waves} {offered : List (List Bool)} (set : IsSetting p l w offered) {s : State} (k : HasInvariant l w offered s) where
  -- where a net changes that is no rail of the source, its bits are as before
  source-same : (net : ℕ) (value : Bool) → ((b : ℕ) (r : Bool) → b < width l 0 → in_rail l 0 b r ≡ net → ⊥) → (b : ℕ) → b < width l 0
      → has_data (in_stage l (with_net s.value net value) 0) (in_bit l 0 b) ≡ has_data (in_stage l s.value 0) (in_bit l 0 b)
  source-same net value no_rail b lt = data-same (in_stage l s.value 0) (in_stage l (with_net s.value net value) 0) (in_bit l 0 b) (rail false) (rail true)
    where
      rail : (r : Bool) → in_stage l (with_net s.value net value) 0 (in_rail l 0 b r) ≡ in_stage l s.value 0 (in_rail l 0 b r)
      rail r =
          in-local set (with_net s.value net value) 0 b r lt
          ∙ with_net-elsewhere s.value net (in_rail l 0 b r) value (λ e. no_rail b r lt (sym e))
          ∙ sym (in-local set s.value 0 b r lt)

  -- and where it isn't the sink's acknowledge, that is as before
  sink_root-same : (net : ℕ) (value : Bool) → (p.ki ≡ net → ⊥) → with_net s.value net value (l.root l.last) ≡ s.value (l.root l.last)
  sink_root-same net value no_ki = with_net-elsewhere s.value net (l.root l.last) value (λ e. no_ki (sym set.layout.ki ∙ sym e))

  -- the numbers of the ends, where another bank goes on
  abbrev SameEnds : (ℕ → ℕ) → Type 0
  SameEnds c = (c 0 ≡ k.numbers 0) × (c (suc l.last) ≡ k.numbers (suc l.last))

  -- ---- a cell that fires

  fire-ends : (i : CellId) (cell : Cell) → CellAt p.netlist i.0 cell → (c : ℕ → ℕ) → SameEnds c → AreEnds l w offered (step p s (Fire i)) c
  fire-ends i cell at c (first, last) = subst (λ v. AreEnds l w offered (record s { value = v }) c) (sym (ap (fired s.value) at)) (record {
    offers = k.ends.offers;
    given = first ∙ k.ends.given;
    taken = ap (λ x. x + one_if (not (after (l.root l.last)))) last ∙ ap (λ x. k.numbers (suc l.last) + one_if (not x)) (sink_root-same cell.out.0 (next_value s.value cell) (output-no_ki set.layout cell part)) ∙ k.ends.taken;
    few = k.ends.few;
    finished = λ e b lt. same b lt ∙ k.ends.finished e b lt;
    some_old = let (b, lt, old) = k.ends.some_old in (b, lt, same b lt ∙ old ∙ ap (λ t. not (even t)) (sym first));
    carried = k.ends.carried;
  })
    where
      after : Nets
      after = with_net s.value cell.out.0 (next_value s.value cell)

      part : Part l cell
      part = set.layout.part_of i.0 cell at

      same : (b : ℕ) → b < width l 0
          → has_data (in_stage l (with_net s.value cell.out.0 (next_value s.value cell)) 0) (in_bit l 0 b) ≡ has_data (in_stage l s.value 0) (in_bit l 0 b)
      same = source-same cell.out.0 (next_value s.value cell) (output-no_source set.layout cell part)

  -- ---- a rail of the source that moves

  module _ {b : ℕ} (move : IsSourceMove l w s k.numbers b) where
    abbrev after_move : Nets
    after_move = moved l w s k.numbers b

    -- in this state some bit of the source is old
    abbrev SomeOld : (ℕ → ℕ) → Type 0
    SomeOld c = (i : ℕ) × (i < width l 0) × (has_data (in_stage l after_move 0) (in_bit l 0 i) ≡ not (even (c 0)))

    -- the sink's number is as before
    sink-number : (c : ℕ → ℕ) → c (suc l.last) ≡ k.numbers (suc l.last)
        → c (suc l.last) + one_if (not (after_move (l.root l.last))) ≡ 2 * length s.delivered
    sink-number c last =
        ap (λ x. x + one_if (not (after_move (l.root l.last)))) last
        ∙ ap (λ x. k.numbers (suc l.last) + one_if (not x))
        (sink_root-same _ (rising k.numbers 0) (λ e. source-no_ki set.layout b (bit_at (word_in w k.numbers 0) b) move.within (sym e)))
        ∙ k.ends.taken

    -- the source raises a rail, and where it was the last goes on to its next wave
    raise-ends : (falls : Bool) (c : ℕ → ℕ) → s.falling ≡ false → list_all after_move (current_rails p s) ≡ falls
        → c 0 ≡ k.numbers 0 + one_if falls → c (suc l.last) ≡ k.numbers (suc l.last) → SomeOld c
        → AreEnds l w offered (after_raise p s after_move) c
    raise-ends falls c rises is first last old = record {
      offers = k.ends.offers;
      given =
          let was : k.numbers 0 ≡ 2 * (w.held + s.done) + 0 = k.ends.given ∙ ap (λ x. 2 * (w.held + s.done) + one_if x) rises in
          let now : one_if (list_all after_move (current_rails p s)) ≡ one_if falls = ap one_if is in
          omega (arith, first, was, now);
      taken = sink-number c last;
      few = let lt = not_done set k move in let most = one_if-most (list_all after_move (current_rails p s)) in omega (arith, lt, most);
      finished = λ e. absurd (let lt = not_done set k move in omega (arith, lt, e));
      some_old = old;
      carried = k.ends.carried;
    }

    -- it lowers one that isn't the last
    lower-ends : SomeOld k.numbers → AreEnds l w offered (record s { value = after_move }) k.numbers
    lower-ends old = record {
      offers = k.ends.offers;
      given = k.ends.given;
      taken = sink-number k.numbers refl;
      few = k.ends.few;
      finished = λ e. absurd (let lt = not_done set k move in omega (arith, lt, e));
      some_old = old;
      carried = k.ends.carried;
    }

    -- it lowers the last, and the word is done
    done-ends : (c : ℕ → ℕ) → s.falling ≡ true → rising k.numbers 0 ≡ false → c 0 ≡ suc (k.numbers 0)
        → c (suc l.last) ≡ k.numbers (suc l.last) → AreAt l 0 (in_stage l after_move 0) (suc (k.numbers 0))
        → AreEnds l w offered (record s { value = after_move; falling = false; done = s.done + 1 }) c
    done-ends c falls od first last new = record {
      offers = k.ends.offers;
      given = let was : k.numbers 0 ≡ 2 * (w.held + s.done) + 1 = k.ends.given ∙ ap (λ x. 2 * (w.held + s.done) + one_if x) falls in omega (arith, first, was);
      taken = sink-number c last;
      few = let lt = not_done set k move in omega (arith, lt);
      finished = λ e i lt. new i lt ∙ not-not (even (k.numbers 0)) ∙ ap even move.same ∙ od;
      some_old = (b, move.within, new b move.within ∙ ap (λ t. not (even t)) (sym first));
      carried = k.ends.carried;
    }

  -- ---- the sink's acknowledge

  -- the sink's acknowledge has the value that it is set to
  ki-now : (value : Bool) → with_net s.value p.ki value (l.root l.last) ≡ value
  ki-now value = subst (λ x. with_net s.value p.ki value x ≡ value) (sym set.layout.ki) (with_net-here s.value p.ki value)

  asked : one_if (not (s.value (l.root l.last))) ≡ one_if (not (rising k.numbers l.last))
  asked = ap (λ x. one_if (not x)) (root-value set k l.last (omega arith))

  -- the sink goes on to its next wave
  sink-ends : (value : Bool) (delivered : List Pair)
      → next_at k.numbers (suc l.last) (suc l.last) + one_if (not (with_net s.value p.ki value (l.root l.last))) ≡ 2 * length delivered
      → ((i : ℕ) (pair : Pair) → slice_get delivered i ≡ Some pair → Carries (w.word i (suc l.last)) pair)
      → AreEnds l w offered (record s { value = with_net s.value p.ki value; delivered = delivered }) (next_at k.numbers (suc l.last))
  sink-ends value delivered taken carried =
      let source : next_at k.numbers (suc l.last) 0 ≡ k.numbers 0 =
      place-other k.numbers (suc l.last) (suc (k.numbers (suc l.last))) 0 (λ q. omega (arith, q)) in
      let same = source-same p.ki value (source-no_ki set.layout) in
      record {
        offers = k.ends.offers;
        given = source ∙ k.ends.given;
        taken = taken;
        few = k.ends.few;
        finished = λ e b lt. same b lt ∙ k.ends.finished e b lt;
        some_old = let (b, lt, old) = k.ends.some_old in (b, lt, same b lt ∙ old ∙ ap (λ t. not (even t)) (sym source));
        carried = carried;
      }

  -- ---- any move

  pub ends-kept : (item : Item) → (m : Move p l w s k.numbers item) → AreEnds l w offered (step p s item) (numbers_after m)
  ends-kept item (gate i cell j g at le m is excited) = fire-ends i cell at k.numbers (refl, refl)
  ends-kept item (register i cell j b r at move) = fire-ends i cell at k.numbers (refl, refl)
  ends-kept item (tree i cell j at move inner) = fire-ends i cell at k.numbers (refl, refl)
  ends-kept item (root i cell j at move is_root acks) = fire-ends i cell at (next_at k.numbers (suc j)) (
    place-other k.numbers (suc j) (suc (k.numbers (suc j))) 0 (λ q. omega (arith, q)),
    place-other k.numbers (suc j) (suc (k.numbers (suc j))) (suc l.last) (λ q. let lt = move.within in omega (arith, q, lt)),
  )
  ends-kept item (raise b move rises ev some) =
      subst (λ v. AreEnds l w offered (after_raise p s v) k.numbers) (sym (rail-put set k b true move ev))
      (raise-ends move false k.numbers rises some (omega arith) refl (some_low set k move ev some))
  ends-kept item (raise_last b move rises ev all) =
      let now : next_at k.numbers 0 0 ≡ suc (k.numbers 0) = place-here k.numbers 0 (suc (k.numbers 0)) in
      subst (λ v. AreEnds l w offered (after_raise p s v) (next_at k.numbers 0)) (sym (rail-put set k b true move ev))
      (raise-ends move true (next_at k.numbers 0) rises all (omega (arith, now)) (place-other k.numbers 0 (suc (k.numbers 0)) (suc l.last) (λ q. omega (arith, q)))
      (b, move.within, all_raised set k move ev all b move.within ∙ ap (λ t. not (even t)) (sym now)))
  ends-kept item (lower b move falls od some) =
      subst (λ v. AreEnds l w offered (after_lower p s v) k.numbers) (sym (rail-put set k b false move od))
      (subst (λ x. AreEnds l w offered (if x then record s { value = moved l w s k.numbers b; falling = false; done = s.done + 1 } else record s { value = moved l w s k.numbers b }) k.numbers) (sym some)
      (lower-ends move (some_high set k move od some)))
  ends-kept item (lower_last b move falls od all) =
      subst (λ v. AreEnds l w offered (after_lower p s v) (next_at k.numbers 0)) (sym (rail-put set k b false move od))
      (subst (λ x. AreEnds l w offered (if x then record s { value = moved l w s k.numbers b; falling = false; done = s.done + 1 } else record s { value = moved l w s k.numbers b }) (next_at k.numbers 0)) (sym all)
      (done-ends move (next_at k.numbers 0) falls od (place-here k.numbers 0 (suc (k.numbers 0))) (place-other k.numbers 0 (suc (k.numbers 0)) (suc l.last) (λ q. omega (arith, q))) (all_lowered set k move od all)))
  ends-kept item (take ev some acks) = sink-ends false (s.delivered ++ pair_at p.outputs s.value ∷ [])
      (let now = place-here k.numbers (suc l.last) (suc (k.numbers (suc l.last))) in
      let low : one_if (not (with_net s.value p.ki false (l.root l.last))) ≡ 1 = ap (λ x. one_if (not x)) (ki-now false) in
      let more : length (s.delivered ++ pair_at p.outputs s.value ∷ []) ≡ length s.delivered + 1 =
      length-append s.delivered (pair_at p.outputs s.value ∷ []) in
      let before = count in
      omega (arith, now, low, before, more))
      (λ i pair at. elim (push_cases s.delivered (pair_at p.outputs s.value) i pair at) [
        | inl old ↦ k.ends.carried i pair old
        | inr (e, same) ↦
            let wave : k.numbers (suc l.last) ≡ 2 * i + 0 = let before = count in omega (arith, before, e) in
            subst (λ x. Carries (w.word i (suc l.last)) x) same
            (subst (λ x. Carries (w.word x (suc l.last)) (pair_at p.outputs s.value)) (ap half wave ∙ half-given i false) (taken-carries set k ev some))
      ])
    where
      count : k.numbers (suc l.last) ≡ 2 * length s.delivered
      count =
          let high : one_if (not (s.value (l.root l.last))) ≡ 0 = asked ∙ ap (λ x. one_if (not x)) ev in
          omega (arith, k.ends.taken, high)
  ends-kept item (ready od none acks) = sink-ends true s.delivered
      (let now = place-here k.numbers (suc l.last) (suc (k.numbers (suc l.last))) in
      let high : one_if (not (with_net s.value p.ki true (l.root l.last))) ≡ 0 = ap (λ x. one_if (not x)) (ki-now true) in
      let low : one_if (not (s.value (l.root l.last))) ≡ 1 = asked ∙ ap (λ x. one_if (not x)) od in
      omega (arith, now, high, k.ends.taken, low))
      k.ends.carried

-- ---- a gate that fires, and a rail of a bank or of the source that moves, keep the invariant of the nets

module _ {p : PipelineData} {l : Layout} {w : Waves} {offered : List (List Bool)} (set : IsSetting p l w offered) {at tree : ℕ → Nets} {c : ℕ → ℕ} (kept : AreKept l w at tree c) where
  -- where new bits of a bank stay new, its tree follows
  follows-more : (k : ℕ) (new : Nets) (z : Cell) → k < l.last → Member z (l.tree k)
      → ((b : ℕ) → b < width l (suc k) → has_data (at (suc k)) (in_bit l (suc k) b) ≡ rising c k → has_data new (in_bit l (suc k) b) ≡ rising c k)
      → Follows new (tree k) (rising c k) z
  follows-more k new z lt m more is_new = reads-more set.layout k lt new (tree k) z m more (λ net has. has) (kept.follows k z lt m is_new)

  -- a net of a stage takes the value of its wave
  module _ (new : ℕ → Nets) (i net : ℕ) (changes : Changes l.last at new i (with_net (at i) net (rising c i))) where
    -- so in an even wave what is high stays so, and in an odd one what is high was so
    stays_high : (j : ℕ) → j ≤ l.last → rising c j ≡ true → (x : ℕ) → at j x ≡ true → new j x ≡ true
    stays_high j lj ev x high = elim (cases_eq i j) [
      | inl e ↦
          subst (λ y. rising c y ≡ true → at y x ≡ true → new y x ≡ true) e
          (λ ev high. ap (λ v. v x) changes.here ∙ subst (λ b. with_net (at i) net b x ≡ true) (sym ev) (with_net-raised (at i) net x high)) ev high
      | inr apart ↦ ap (λ v. v x) (changes.others j lj apart) ∙ high
    ]

    was_high : (j : ℕ) → j ≤ l.last → rising c j ≡ false → (x : ℕ) → new j x ≡ true → at j x ≡ true
    was_high j lj od x high = elim (cases_eq i j) [
      | inl e ↦
          subst (λ y. rising c y ≡ false → new y x ≡ true → at y x ≡ true) e
          (λ od high. with_net-lowered (at i) net x (subst (λ b. with_net (at i) net b x ≡ true) od (sym (ap (λ v. v x) changes.here) ∙ high))) od high
      | inr apart ↦ sym (ap (λ v. v x) (changes.others j lj apart)) ∙ high
    ]

    -- each stage is in its phase where that one is
    phases_after : IsPhase (l.stage i) (rising c i) (word_in w c i) (with_net (at i) net (rising c i)) → (j : ℕ) → j ≤ l.last
        → IsPhase (l.stage j) (rising c j) (word_in w c j) (new j)
    phases_after phase j lj = elim (cases_eq i j) [
      | inl e ↦ subst (λ x. IsPhase (l.stage x) (rising c x) (word_in w c x) (new x)) e (subst (IsPhase (l.stage i) (rising c i) (word_in w c i)) (sym changes.here) phase)
      | inr apart ↦ subst (IsPhase (l.stage j) (rising c j) (word_in w c j)) (sym (changes.others j lj apart)) (kept.phases j lj)
    ]

  module _ (new : ℕ → Nets) (i : ℕ) (le : i ≤ l.last) where
    -- ---- a gate of a stage
    pub gate-kept : (g : StageCell) → Member g (l.stage i).cells → IsExcited (at i) g
        → Changes l.last at new i (with_net (at i) (out_of g) (rising c i)) → AreKept l w new tree c
    gate-kept g m excited changes = record {
      near = λ j lj. near-map (AreAt l j (at j)) (AreAt l j (new j)) (λ t old b lt. bit_same j lj b lt ∙ old b lt) (c j) (c (suc j)) (kept.near j lj);
      order = kept.order;
      least = kept.least;
      asks = kept.asks;
      follows = λ j z lt n. follows-more j (new (suc j)) z lt n (λ b within was. bit_same (suc j) lt b within ∙ was);
      phases = phases_after new i (out_of g) changes (gate_moves (set.layout.is_stage i le) (rising c i) (kept.phases i le) g m excited).2;
      up = λ j b r lt within ev high.
          stays_high new i (out_of g) changes j (omega (arith, lt)) ev (out_rail l j b r) (kept.up j b r lt within ev (sym (rail_same (suc j) lt b r within) ∙ high));
      down = λ j b r lt within od high.
          rail_same (suc j) lt b r within ∙ kept.down j b r lt within od (was_high new i (out_of g) changes j (omega (arith, lt)) od (out_rail l j b r) high);
    }
      where
        rail_same : (j : ℕ) → j ≤ l.last → (b : ℕ) (r : Bool) → b < width l j → new j (in_rail l j b r) ≡ at j (in_rail l j b r)
        rail_same j lj b r lt = elim (cases_eq i j) [
          | inl e ↦
              subst (λ x. b < width l x → new x (in_rail l x b r) ≡ at x (in_rail l x b r)) e
              (λ lt. ap (λ v. v (in_rail l i b r)) changes.here ∙ gate-no_rail (set.layout.is_stage i le) (at i) (rising c i) g m b r lt) lt
          | inr apart ↦ ap (λ v. v (in_rail l j b r)) (changes.others j lj apart)
        ]

        bit_same : (j : ℕ) → j ≤ l.last → (b : ℕ) → b < width l j → has_data (new j) (in_bit l j b) ≡ has_data (at j) (in_bit l j b)
        bit_same j lj b lt = data-same (at j) (new j) (in_bit l j b) (rail_same j lj b false lt) (rail_same j lj b true lt)

    -- ---- a rail of a bank, or of the source: its bank and the next are in one wave, it is the word's, and its
    -- register cell, if it has one, has seen it move on A
    pub rail-kept : (j : ℕ) (r : Bool) → j < width l i → c i ≡ c (suc i) → r ≡ bit_at (word_in w c i) j
        → ((k : ℕ) → suc k ≡ i → at k (out_rail l k j r) ≡ rising c i)
        → Changes l.last at new i (with_net (at i) (in_rail l i j r) (rising c i)) → AreKept l w new tree c
    rail-kept j r within same named was_ready changes = record {
      near = λ n ln. elim (cases_eq i n) [
        | inl e ↦ subst (λ x. AreNear (AreAt l x (new x)) (c x) (c (suc x))) e (equal same)
        | inr apart ↦ subst (λ v. AreNear (AreAt l n v) (c n) (c (suc n))) (sym (changes.others n ln apart)) (kept.near n ln)
      ];
      order = kept.order;
      least = kept.least;
      asks = kept.asks;
      follows = λ k z lt m. follows-more k (new (suc k)) z lt m (λ b lb was. elim (cases_eq i (suc k)) [
        | inl e ↦ subst (λ x. b < width l x → has_data (at x) (in_bit l x b) ≡ even (c x) → has_data (new x) (in_bit l x b) ≡ even (c x)) e (new_bit b) lb was
        | inr apart ↦ ap (λ v. has_data v (in_bit l (suc k) b)) (changes.others (suc k) lt apart) ∙ was
      ]);
      phases = phases_after new i (in_rail l i j r) changes (subst (λ q. IsPhase (l.stage i) (rising c i) (word_in w c i) (with_net (at i) (in_rail l i j q) (rising c i))) (sym named) (rail_moves (set.layout.is_stage i le) (rising c i) (set.waves.wide _ i le) (kept.phases i le) j within));
      up = λ k b q lt lb ev high. elim (cases_eq i (suc k)) [
        | inl e ↦ up_here k b q lt e (subst (λ x. b < width l x) (sym e) lb) ev (subst (λ x. new x (in_rail l x b q) ≡ true) (sym e) high)
        | inr apart ↦
            stays_high new i (in_rail l i j r) changes k (omega (arith, lt)) ev (out_rail l k b q)
            (kept.up k b q lt lb ev (sym (ap (λ v. v (in_rail l (suc k) b q)) (changes.others (suc k) lt apart)) ∙ high))
      ];
      down = λ k b q lt lb od high. elim (cases_eq i (suc k)) [
        | inl e ↦ subst (λ x. new x (in_rail l x b q) ≡ true) e (down_here k b q lt e (subst (λ x. b < width l x) (sym e) lb) od high)
        | inr apart ↦
            ap (λ v. v (in_rail l (suc k) b q)) (changes.others (suc k) lt apart)
            ∙ kept.down k b q lt lb od (was_high new i (in_rail l i j r) changes k (omega (arith, lt)) od (out_rail l k b q) high)
      ];
    }
      where
        rail : ℕ
        rail = in_rail l i j r

        -- the bit is new, and the others are as before
        new_bit : (b : ℕ) → b < width l i → has_data (at i) (in_bit l i b) ≡ even (c i) → has_data (new i) (in_bit l i b) ≡ even (c i)
        new_bit b lb was = ap (λ v. has_data v (in_bit l i b)) changes.here ∙ elim (cases_eq j b) [
          | inl e ↦
              subst (λ x. has_data (with_net (at i) (in_rail l i j r) (rising c i)) (in_bit l i x) ≡ even (c i)) e
              (subst (λ q. has_data (with_net (at i) (in_rail l i j q) (rising c i)) (in_bit l i j) ≡ even (c i)) (sym named)
              (data-moved (set.layout.is_stage i le) (rising c i) (set.waves.wide _ i le) (kept.phases i le) j within ∙ ap even (sym same)))
          | inr apart ↦ data-other (set.layout.is_stage i le) (at i) (rising c i) j b r within lb apart ∙ was
        ]

        before : (k : ℕ) → k < l.last → i ≡ suc k → new k ≡ at k
        before k lt e = changes.others k (omega (arith, lt)) (λ x. omega (arith, e, x))

        -- the register cell of the rail reads what has moved
        own : (k b : ℕ) (q : Bool) → i ≡ suc k → b < width l i → in_rail l i j r ≡ in_rail l i b q → at k (out_rail l k b q) ≡ rising c k
        own k b q e lb is =
            let (bits, sides) = rail-is_one (l.stage i).inputs _ (set.layout.is_stage i le).nets_differ j b r q within lb is in
            subst (λ x. at k (out_rail l k x q) ≡ rising c k) bits
            (subst (λ x. at k (out_rail l k j x) ≡ rising c k) sides (was_ready k (sym e) ∙ ap even (sym same) ∙ ap (λ x. even (c x)) e))

        up_here : (k b : ℕ) (q : Bool) → k < l.last → i ≡ suc k → b < width l i → rising c k ≡ true → new i (in_rail l i b q) ≡ true
            → new k (out_rail l k b q) ≡ true
        up_here k b q lt e lb ev high = ap (λ v. v (out_rail l k b q)) (before k lt e) ∙ elim (cases_eq (in_rail l i j r) (in_rail l i b q)) [
          | inl is ↦ own k b q e lb is ∙ ev
          | inr apart ↦
              let was : at i (in_rail l i b q) ≡ true =
              sym (with_net-elsewhere (at i) (in_rail l i j r) (in_rail l i b q) (rising c i) apart)
              ∙ sym (ap (λ v. v (in_rail l i b q)) changes.here) ∙ high in
              kept.up k b q lt (subst (λ x. b < width l x) e lb) ev (subst (λ x. at x (in_rail l x b q) ≡ true) e was)
        ]

        down_here : (k b : ℕ) (q : Bool) → k < l.last → i ≡ suc k → b < width l i → rising c k ≡ false → new k (out_rail l k b q) ≡ true
            → new i (in_rail l i b q) ≡ true
        down_here k b q lt e lb od high = ap (λ v. v (in_rail l i b q)) changes.here ∙ elim (cases_eq (in_rail l i j r) (in_rail l i b q)) [
          | inl is ↦ absurd (both_ways _ (own k b q e lb is ∙ od) (sym (ap (λ v. v (out_rail l k b q)) (before k lt e)) ∙ high))
          | inr apart ↦
              let is : at (suc k) (in_rail l (suc k) b q) ≡ true =
              kept.down k b q lt (subst (λ x. b < width l x) e lb) od (sym (ap (λ v. v (out_rail l k b q)) (before k lt e)) ∙ high) in
              with_net-elsewhere (at i) (in_rail l i j r) (in_rail l i b q) (rising c i) apart ∙ subst (λ x. at x (in_rail l x b q) ≡ true) (sym e) is
        ]

-- ---- a cell of a completion tree that fires, a bank or the sink that acknowledges, and the source that ends a word or
-- the NULL after it, keep the invariant of the nets

-- a bank isn't old to a wave and to the next
pub never-both : {p : PipelineData} {l : Layout} → IsLayoutOf p l → (v : Nets) (k t : ℕ) → k ≤ l.last → AreAt l k v t → AreAt l k v (suc t) → ⊥
never-both {l = l} is v k t le at_t at_next =
    let some : 1 ≤ width l k = (is.is_stage k le).some_inputs in
    let lt : 0 < width l k = omega (arith, some) in
    not_itself (even t) (sym (not-not (even t)) ∙ sym (at_next 0 lt) ∙ at_t 0 lt)

module _ {p : PipelineData} {l : Layout} {w : Waves} {offered : List (List Bool)} (set : IsSetting p l w offered) {at tree : ℕ → Nets} {c : ℕ → ℕ} (kept : AreKept l w at tree c) where
  -- ---- a cell of a tree that is no root
  pub tree-kept : (new : ℕ → Nets) (k : ℕ) (z : Cell) → k < l.last → Member z (l.tree k) → tree k z.out.0 ≡ rising c k
      → ReadsNew (at (suc k)) (tree k) (rising c k) z → z.out.0 ≢ l.root k
      → Changes l.last tree new k (with_net (tree k) z.out.0 (not (rising c k))) → AreKept l w at new c
  tree-kept new k z lt m old reads inner changes = record {
    near = kept.near;
    order = kept.order;
    least = kept.least;
    asks = λ j lj. elim (cases_eq k j) [
      | inl e ↦
          subst (λ x. new x (l.root x) ≡ rising c x) e
          (ap (λ v. v (l.root k)) changes.here ∙ with_net-elsewhere (tree k) z.out.0 (l.root k) (not (rising c k)) inner ∙ kept.asks k (omega (arith, lt)))
      | inr apart ↦ ap (λ v. v (l.root j)) (changes.others j lj apart) ∙ kept.asks j lj
    ];
    follows = λ j y lj n. elim (cases_eq k j) [
      | inl e ↦
          subst (λ x. Member y (l.tree x) → Follows (at (suc x)) (new x) (rising c x) y) e
          (λ n. subst (λ v. Follows (at (suc k)) v (rising c k) y) (sym changes.here) (follows_here y n)) n
      | inr apart ↦ subst (λ v. Follows (at (suc j)) v (rising c j) y) (sym (changes.others j (omega (arith, lj)) apart)) (kept.follows j y lj n)
    ];
    phases = kept.phases;
    up = kept.up;
    down = kept.down;
  }
    where
      after : Nets
      after = with_net (tree k) z.out.0 (not (rising c k))

      still_new : (y : Cell) → Member y (l.tree k) → ReadsNew (at (suc k)) (tree k) (rising c k) y
          → ReadsNew (at (suc k)) (with_net (tree k) z.out.0 (not (rising c k))) (rising c k) y
      still_new y n = reads-more set.layout k lt (at (suc k)) after y n (λ b within has. has) (λ net. with_net-keeps (tree k) z.out.0 net (not (rising c k)))

      follows_here : (y : Cell) → Member y (l.tree k) → Follows (at (suc k)) (with_net (tree k) z.out.0 (not (rising c k))) (rising c k) y
      follows_here y n is_new = elim (cases_eq z.out.0 y.out.0) [
        | inl e ↦ subst (ReadsNew (at (suc k)) after (rising c k)) (one_cell set.layout k lt z y m n e) (still_new z m reads)
        | inr apart ↦ still_new y n (kept.follows k y lt n (sym (with_net-elsewhere (tree k) z.out.0 y.out.0 (not (rising c k)) apart) ∙ is_new))
      ]

  -- ---- the root of a bank, and the acknowledge of the sink: the bank goes on to its next wave
  pub root-kept : (new : ℕ → Nets) (k : ℕ) → k ≤ l.last → Acknowledges l w at tree c k
      → Changes l.last tree new k (with_net (tree k) (l.root k) (not (rising c k))) → AreKept l w at new (next_at c (suc k))
  root-kept new k le acks changes = record {
    near = λ j lj. elim (cases_eq (suc k) j) [
      | inl e ↦
          subst (λ x. AreNear (AreAt l x (at x)) (now x) (now (suc x))) e
          (near-numbers (AreAt l (suc k) (at (suc k))) (sym here) (sym (other (suc (suc k)) (λ q. omega (arith, q)))) (near_here (omega (arith, e, lj))))
      | inr apart ↦ elim (cases_eq k j) [
        | inl e ↦
            subst (λ x. AreNear (AreAt l x (at x)) (now x) (now (suc x))) e
            (near-numbers (AreAt l k (at k)) (sym (other k (λ q. omega (arith, q)))) (sym here) near_before)
        | inr far ↦ near-numbers (AreAt l j (at j)) (sym (other j apart)) (sym (other (suc j) (λ q. far (omega (arith, q))))) (kept.near j lj)
      ]
    ];
    order = elim (cases_eq k 0) [
      | inl e ↦
          let one : now 1 ≡ suc (c 1) = subst (λ x. now (suc x) ≡ suc (c (suc x))) e here in
          let zero_same : now 0 ≡ c 0 = other 0 (λ q. omega (arith, q)) in
          let ahead_of : c 0 ≡ suc (c 1) = acks.source e in
          omega (arith, one, zero_same, ahead_of)
      | inr apart ↦
          let one : now 1 ≡ c 1 = other 1 (λ q. apart (omega (arith, q))) in
          let zero_same : now 0 ≡ c 0 = other 0 (λ q. omega (arith, q)) in
          let was : c 1 ≤ c 0 = kept.order in
          omega (arith, one, zero_same, was)
    ];
    least = λ j lj. elim (cases_eq (suc k) j) [
      | inl e ↦ let was = kept.least j lj in let grown : now j ≡ suc (c j) = subst (λ x. now x ≡ suc (c x)) e here in omega (arith, was, grown)
      | inr apart ↦ let was = kept.least j lj in let same = other j apart in omega (arith, was, same)
    ];
    asks = λ j lj. elim (cases_eq k j) [
      | inl e ↦ subst (λ x. new x (l.root x) ≡ rising now x) e (ap (λ v. v (l.root k)) changes.here ∙ with_net-here (tree k) (l.root k) (not (rising c k)) ∙ ap even (sym here))
      | inr apart ↦ ap (λ v. v (l.root j)) (changes.others j lj apart) ∙ kept.asks j lj ∙ ap even (sym (later j apart))
    ];
    follows = λ j y lj n. elim (cases_eq k j) [
      | inl e ↦
          subst (λ x. Member y (l.tree x) → Follows (at (suc x)) (new x) (rising now x) y) e
          (λ n is_new. absurd (not_itself (not (rising c k)) (sym (all_old (omega (arith, e, lj)) y n) ∙ sym (ap (λ v. v y.out.0) changes.here) ∙ is_new ∙ ap (λ t. not (even t)) here))) n
      | inr apart ↦
          subst (λ v. Follows (at (suc j)) v (rising now j) y) (sym (changes.others j (omega (arith, lj)) apart))
          (subst (λ t. Follows (at (suc j)) (tree j) (even t) y) (sym (later j apart)) (kept.follows j y lj n))
    ];
    phases = λ j lj. elim (cases_eq k j) [
      | inl e ↦
          subst (λ x. IsPhase (l.stage x) (rising now x) (word_in w now x) (at x)) e
          (subst (λ t. IsPhase (l.stage k) (even t) (w.word (half t) k) (at k)) (sym here) acks.drawn.turned)
      | inr apart ↦ subst (λ t. IsPhase (l.stage j) (even t) (w.word (half t) j) (at j)) (sym (later j apart)) (kept.phases j lj)
    ];
    up = λ j b r lj lb ev high. elim (cases_eq k j) [
      | inl e ↦
          subst (λ x. b < width l (suc x) → rising now x ≡ true → at (suc x) (in_rail l (suc x) b r) ≡ true → at x (out_rail l x b r) ≡ true) e
          (λ lb ev high. absurd (both_ways _ (acks.bank (omega (arith, e, lj)) b lb ∙ not_from_true _ (ap even (sym here) ∙ ev)) (rail-data (at (suc k)) (l.stage (suc k)).inputs b r high))) lb ev high
      | inr apart ↦ kept.up j b r lj lb (ap even (sym (later j apart)) ∙ ev) high
    ];
    down = λ j b r lj lb od high. elim (cases_eq k j) [
      | inl e ↦
          subst (λ x. b < width l (suc x) → rising now x ≡ false → at x (out_rail l x b r) ≡ true → at (suc x) (in_rail l (suc x) b r) ≡ true) e
          (λ lb od high. both_high (omega (arith, e, lj)) (not-false _ (ap even (sym here) ∙ od)) b r lb high) lb od high
      | inr apart ↦ kept.down j b r lj lb (ap even (sym (later j apart)) ∙ od) high
    ];
  }
    where
      now : ℕ → ℕ
      now = next_at c (suc k)

      here : next_at c (suc k) (suc k) ≡ suc (c (suc k))
      here = place-here c (suc k) (suc (c (suc k)))

      other : (j : ℕ) → (suc k ≡ j → ⊥) → next_at c (suc k) j ≡ c j
      other j apart = place-other c (suc k) (suc (c (suc k))) j apart

      later : (j : ℕ) → (k ≡ j → ⊥) → next_at c (suc k) (suc j) ≡ c (suc j)
      later j apart = other (suc j) (λ q. apart (omega (arith, q)))

      -- every cell of the tree is old to the next wave
      all_old : k < l.last → (y : Cell) → Member y (l.tree k) → with_net (tree k) (l.root k) (not (rising c k)) y.out.0 ≡ not (rising c k)
      all_old lt y n = elim (acks.others y lt n) [
        | inl is_root ↦ ap (with_net (tree k) (l.root k) (not (rising c k))) is_root ∙ with_net-here (tree k) (l.root k) (not (rising c k))
        | inr known ↦ with_net-keeps (tree k) (l.root k) y.out.0 (not (rising c k)) known
      ]

      near_here : k < l.last → AreNear (AreAt l (suc k) (at (suc k))) (suc (c (suc k))) (c (suc (suc k)))
      near_here lt = elim (kept.near (suc k) lt) [
        | equal e ↦ ahead (ap suc e) (acks.bank lt)
        | ahead e was ↦ absurd (never-both set.layout (at (suc k)) (suc k) (c (suc k)) lt was (acks.bank lt))
        | behind e was ↦ equal (sym e)
      ]

      near_before : AreNear (AreAt l k (at k)) (c k) (suc (c (suc k)))
      near_before = elim (kept.near k le) [
        | equal e ↦ behind (ap suc (sym e)) acks.drawn.bank
        | ahead e was ↦ equal e
        | behind e was ↦ absurd (never-both set.layout (at k) k (c (suc k)) le was acks.drawn.bank)
      ]

      -- where the next wave brings NULL, a bit is DATA, and the stage before has only its rail
      both_high : k < l.last → rising c k ≡ true → (b : ℕ) (r : Bool) → b < width l (suc k) → at k (out_rail l k b r) ≡ true
          → at (suc k) (in_rail l (suc k) b r) ≡ true
      both_high lt ev b r lb high =
          let in_outputs : b < length (l.stage k).outputs = let same = set.layout.joined k lt in omega (arith, lb, same) in
          let (q, rail) = some-rail (at (suc k)) (l.stage (suc k)).inputs b (acks.bank lt b lb ∙ not-not _ ∙ ev) in
          let is_q =
          output_is (set.layout.is_stage k le) _ (set.sound _ k le) (kept.phases k le) b q in_outputs (kept.up k b q lt lb ev rail) in
          let is_r = output_is (set.layout.is_stage k le) _ (set.sound _ k le) (kept.phases k le) b r in_outputs high in
          subst (λ x. at (suc k) (in_rail l (suc k) b x) ≡ true) (is_q ∙ sym is_r) rail

  -- ---- the end of a word at the source, or of the NULL after it: the source goes on to its next wave
  pub source_turn-kept : c 0 ≡ c 1 → AreAt l 0 (at 0) (suc (c 0)) → AreKept l w at tree (next_at c 0)
  source_turn-kept same bank = record {
    near = λ j lj. elim (cases_eq 0 j) [
      | inl e ↦
          subst (λ x. AreNear (AreAt l x (at x)) (now x) (now (suc x))) e
          (near-numbers (AreAt l 0 (at 0)) (sym (place-here c 0 (suc (c 0)))) (sym (other 0)) (ahead (ap suc same) bank))
      | inr apart ↦ near-numbers (AreAt l j (at j)) (sym (place-other c 0 (suc (c 0)) j apart)) (sym (other j)) (kept.near j lj)
    ];
    order = let one = other 0 in let zero_now = place-here c 0 (suc (c 0)) in omega (arith, one, zero_now, same);
    least = λ j lj. elim (cases_eq 0 j) [
      | inl e ↦ let was = kept.least j lj in let grown : now j ≡ suc (c j) = subst (λ x. now x ≡ suc (c x)) e (place-here c 0 (suc (c 0))) in omega (arith, was, grown)
      | inr apart ↦ let was = kept.least j lj in let now_same = place-other c 0 (suc (c 0)) j apart in omega (arith, was, now_same)
    ];
    asks = λ j lj. kept.asks j lj ∙ ap even (sym (other j));
    follows = λ j z lt m. subst (λ t. Follows (at (suc j)) (tree j) (even t) z) (sym (other j)) (kept.follows j z lt m);
    phases = λ j lj. subst (λ t. IsPhase (l.stage j) (even t) (w.word (half t) j) (at j)) (sym (other j)) (kept.phases j lj);
    up = λ j b r lt lb ev high. kept.up j b r lt lb (ap even (sym (other j)) ∙ ev) high;
    down = λ j b r lt lb od high. kept.down j b r lt lb (ap even (sym (other j)) ∙ od) high;
  }
    where
      now : ℕ → ℕ
      now = next_at c 0

      other : (j : ℕ) → next_at c 0 (suc j) ≡ c (suc j)
      other j = place-other c 0 (suc (c 0)) (suc j) (λ q. omega (arith, q))

-- ---- runs keep the invariant

module _ {p : PipelineData} {l : Layout} {w : Waves} {offered : List (List Bool)} (set : IsSetting p l w offered) where
  module _ {s : State} (k : HasInvariant l w offered s) where
    -- the invariant of the nets with some values
    abbrev Kept : Nets → (ℕ → ℕ) → Type 0
    Kept v c = AreKept l w (in_stage l v) (in_tree l v) c

    -- where one net of a stage changes, and where one net of a tree does
    by_stage : (j net : ℕ) (value : Bool) (c : ℕ → ℕ) → j ≤ l.last → Member net (stage_nets l j)
        → ((new : ℕ → Nets) → Changes l.last (in_stage l s.value) new j (with_net (in_stage l s.value j) net value) → AreKept l w new (in_tree l s.value) c)
        → Kept (with_net s.value net value) c
    by_stage j net value c le m keeps =
        let now : ℕ → Nets = in_stage l (with_net s.value net value) in
        let (changes, same) = stage_changes set.layout s.value j net value le m in
        same-kept now (in_tree l (with_net s.value net value)) (λ i le. refl) same (keeps now changes)

    by_tree : (j net : ℕ) (value : Bool) (c : ℕ → ℕ) → j ≤ l.last → Member net (l.tree_nets j)
        → ((new : ℕ → Nets) → Changes l.last (in_tree l s.value) new j (with_net (in_tree l s.value j) net value) → AreKept l w (in_stage l s.value) new c)
        → Kept (with_net s.value net value) c
    by_tree j net value c le m keeps =
        let now : ℕ → Nets = in_tree l (with_net s.value net value) in
        let (changes, same) = tree_changes set.layout s.value j net value le m in
        same-kept (in_stage l (with_net s.value net value)) now same (λ i le. refl) (keeps now changes)

    -- a rail of a bank or of the source
    rail : (i b : ℕ) (r : Bool) → i ≤ l.last → b < width l i → k.numbers i ≡ k.numbers (suc i) → r ≡ bit_at (word_in w k.numbers i) b
        → ((j : ℕ) → suc j ≡ i → in_stage l s.value j (out_rail l j b r) ≡ rising k.numbers i)
        → Kept (with_net s.value (in_rail l i b r) (rising k.numbers i)) k.numbers
    rail i b r le within same named reads =
        by_stage i (in_rail l i b r) (rising k.numbers i) k.numbers le (rail-listed (l.stage i) b r within)
        (λ new changes. rail-kept set k.nets new i le b r within same named reads changes)

    source_rail : (b : ℕ) → IsSourceMove l w s k.numbers b → Kept (moved l w s k.numbers b) k.numbers
    source_rail b move = rail 0 b (bit_at (word_in w k.numbers 0) b) (omega arith) move.within move.same refl (λ j none. absurd (omega (arith, none)))

    -- the root of a bank or of the sink
    acknowledge : (j : ℕ) → j ≤ l.last → Acknowledges l w (in_stage l s.value) (in_tree l s.value) k.numbers j
        → Kept (with_net s.value (l.root j) (not (rising k.numbers j))) (next_at k.numbers (suc j))
    acknowledge j le acks =
        by_tree j (l.root j) (not (rising k.numbers j)) (next_at k.numbers (suc j)) le (root-listed set.layout j le)
        (λ new changes. root-kept set k.nets new j le acks changes)

    sink_acknowledges : (value : Bool) → not (rising k.numbers l.last) ≡ value
        → Acknowledges l w (in_stage l s.value) (in_tree l s.value) k.numbers l.last
        → Kept (with_net s.value p.ki value) (next_at k.numbers (suc l.last))
    sink_acknowledges value is acks =
        subst (λ v. Kept v (next_at k.numbers (suc l.last))) (ap (λ x. with_net s.value x (not (rising k.numbers l.last))) set.layout.ki ∙ ap (with_net s.value p.ki) is)
        (acknowledge l.last (omega arith) acks)

    -- any move keeps the invariant of the nets
    pub nets-kept : (item : Item) → (m : Move p l w s k.numbers item) → Kept (step p s item).value (numbers_after m)
    nets-kept item (gate i cell j g at le m is excited) =
        subst (λ v. Kept v k.numbers) (sym (gate-step set k i cell j g at le m is excited).1)
        (by_stage j (out_of g) (rising k.numbers j) k.numbers le (gate-listed (l.stage j) g m) (λ new changes. gate-kept set k.nets new j le g m excited changes))
    nets-kept item (register i cell j b r at move) =
        subst (λ v. Kept v k.numbers) (sym (register-step set k i cell j b r at move))
        (rail (suc j) b r move.within move.bit move.same move.named
        (λ n e. subst (λ x. in_stage l s.value x (out_rail l x b r) ≡ rising k.numbers (suc j)) (omega (arith, e)) (out-local set s.value j b r move.within move.bit ∙ move.ready)))
    nets-kept item (tree i cell j at move inner) =
        let listed = tree-listed set.layout j cell move.within move.listed in
        subst (λ v. Kept v k.numbers) (sym (tree-step set k i cell j at move))
        (by_tree j cell.out.0 (not (rising k.numbers j)) k.numbers (let lt = move.within in omega (arith, lt)) listed
        (λ new changes. tree-kept set k.nets new j cell move.within move.listed (local-at (l.tree_nets j) s.value cell.out.0 listed ∙ move.old) move.new inner changes))
    nets-kept item (root i cell j at move is acks) =
        subst (λ v. Kept v (next_at k.numbers (suc j))) (sym (tree-step set k i cell j at move ∙ ap (λ x. with_net s.value x (not (rising k.numbers j))) is))
        (acknowledge j (let lt = move.within in omega (arith, lt)) acks)
    nets-kept item (raise b move rises ev some_low) = subst (λ v. Kept v k.numbers) (sym (raise-step set k b move ev)) (source_rail b move)
    nets-kept item (raise_last b move rises ev all_high) =
        subst (λ v. Kept v (next_at k.numbers 0)) (sym (raise-step set k b move ev))
        (source_turn-kept set (source_rail b move) move.same (all_raised set k move ev all_high))
    nets-kept item (lower b move falls od some_high) = subst (λ v. Kept v k.numbers) (sym (lower-step set k b move od)) (source_rail b move)
    nets-kept item (lower_last b move falls od all_low) =
        subst (λ v. Kept v (next_at k.numbers 0)) (sym (lower-step set k b move od))
        (source_turn-kept set (source_rail b move) move.same (all_lowered set k move od all_low))
    nets-kept item (take ev all acks) = sink_acknowledges false (not_from_true _ ev) acks
    nets-kept item (ready od none acks) = sink_acknowledges true (not_from_false _ od) acks

  -- the state after a move, with its numbers
  abbrev pub step-kept : {s : State} (k : HasInvariant l w offered s) (item : Item) → Move p l w s k.numbers item → HasInvariant l w offered (step p s item)
  step-kept k item m = record { numbers = numbers_after m; nets = nets-kept k item m; ends = ends-kept set k item m }

  -- and so does any run
  pub run-kept : (items : List Item) (s : State) → HasInvariant l w offered s → IsRunFrom p s items → HasInvariant l w offered (after p s items)
  run-kept [] s k run = k
  run-kept (item ∷ items) s k run = run-kept items (step p s item) (step-kept k item (move_of set k item run.0)) run.1

-- ---- what holds wherever the invariant does: nothing is delivered before it was raised, and no bit is illegal

module _ {p : PipelineData} {l : Layout} {w : Waves} {offered : List (List Bool)} (set : IsSetting p l w offered) {s : State} (k : HasInvariant l w offered s) where
  -- no bank is ahead of the source, nor is one that is new to its wave at the source's
  pub within_source : (j : ℕ) → j ≤ l.last
      → (k.numbers (suc j) ≤ k.numbers 0) × (AreAt l j (in_stage l s.value j) (suc (k.numbers (suc j))) → suc (k.numbers (suc j)) ≤ k.numbers 0)
  within_source zero le = (k.nets.order, λ at. let e = source_is_ahead set k at in omega (arith, e))
  within_source (suc j) le =
      let (low, high) = within_source j (omega (arith, le)) in
      let drawn : AreAt l (suc j) (in_stage l s.value (suc j)) (suc (k.numbers (suc j))) → suc (k.numbers (suc j)) ≤ k.numbers 0 = λ at. high (drawn_by_bank set k.nets j le at).bank in (
        elim (k.nets.near (suc j) le) [
          | equal e ↦ omega (arith, e, low)
          | ahead e at ↦ omega (arith, e, low)
          | behind e at ↦ let d = drawn (subst (AreAt l (suc j) (in_stage l s.value (suc j))) e at) in omega (arith, d, e)
        ],
        λ new. elim (k.nets.near (suc j) le) [
          | equal e ↦ let d = drawn (subst (λ t. AreAt l (suc j) (in_stage l s.value (suc j)) (suc t)) (sym e) new) in omega (arith, d, e)
          | ahead e at ↦ omega (arith, e, low)
          | behind e at ↦ absurd (never-both set.layout (in_stage l s.value (suc j)) (suc j) (k.numbers (suc (suc j))) le at new)
        ],
      )

  pub in_time : length s.delivered ≤ w.held + s.done + one_if s.falling
  in_time =
      let last = (within_source l.last (omega arith)).0 in
      let ki = one_if-most (not (s.value (l.root l.last))) in
      let falls = one_if-most s.falling in
      omega (arith, last, k.ends.given, k.ends.taken, ki, falls)

  pub within_due : length s.delivered ≤ w.held + length offered
  within_due = let first = in_time in let few = k.ends.few in omega (arith, first, few)

  -- of the two rails of a bit the word names one
  pub legal_bit : (j b : ℕ) → j ≤ l.last → b < width l j → (s.value (in_rail l j b false) && s.value (in_rail l j b true)) ≡ false
  legal_bit j b le lt = false_from_ne_true _ (λ both.
      let (zero_high, one_high) = and_parts (s.value (in_rail l j b false)) (s.value (in_rail l j b true)) both in
      both_ways _ (sym (rail_named set k j b false le lt (in-local set s.value j b false lt ∙ zero_high))) (sym (rail_named set k j b true le lt (in-local set s.value j b true lt ∙ one_high))))
