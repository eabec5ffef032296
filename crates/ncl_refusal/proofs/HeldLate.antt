-- No bit of a word that a bank holds at reset may be late in a delay-insensitive pipeline: where nothing waits for its rail to
-- fall, the bank after the stage goes on to NULL, and asks for DATA, while the register cell of the rail is still to fall.
use Rattle.ncl_refusal.proofs.Terms.{AreCellsOf, Base, Bool, Cell, CellAt, CellId, Contains-from_Member, Fire, IsDelayInsensitive, IsExcited, IsLayoutOf, IsQuiet, IsRegisterOf, IsStage, IsUnfed, Item, Layout, List, Member, Member-get_or, NetId, Nets, PipelineData, Rails, Shape, StageCell, StageData, State, [], after, and_from, and_parts, ap, arith, bit_at, both_ways, cases_eq, cells_are, differ, enabled, eq-eqb, excited-from_unfed, false, false_from_ne_true, gate-listed, get_or, holds, holds-excited, in_order, in_outputs, in_rail, inl, inputs-listed, inr, is_held_up, is_left_high, is_null, kept_low, length, list_all-member, list_any, list_any-from_member, member_cases, named-has, named-within_values, nat_eq, ne_eqb, next-from_unfed, next_of_gate, next_value, no_nets, no_rails, not, not-true, only, or_from, or_parts, out-listed, out_of, out_rail, pin_values, rail-listed, rail-place, rail_at, recursion_from_members, refl, register-excited, register-turns, reset, root-listed, set_of, set_of-grows, set_of-low, slice_get-from_Contains, some_high, some_high-low, stage_nets, step, subst, suc, sym, tree-listed, true, true_from_ne_false, unfed-at, val, val-settled, width, with_net-here, ℕ, ◌<◌, ◌||◌, ◌∙◌, ◌∷◌, ◌≡◌, ◌≤◌}
use Rattle.ncl_refusal.proofs.Behind.{IsBehind, avoids, behind-itself, behind-kept, cell_still}
use Rattle.ncl_refusal.proofs.Does.{MovesStage, by_gate, by_register, by_source, stage-moves}
use Rattle.ncl_refusal.proofs.Ends as ends
use Rattle.ncl_refusal.proofs.HeldRuns.{avoided-stays, avoids-cell, cell-enabled, cell-excited, gate-enabled, of_stage, other-stays, picks-cell, picks-gate, run-among, stays-enabled, tree-settled}
use Rattle.ncl_refusal.proofs.HeldStage.{Acknowledged, IsBeginning, acknowledges, bank-full}
use Rattle.ncl_refusal.proofs.Reaching.{IsReached, reached-run, run-keeps}
use Rattle.ncl_refusal.proofs.Rest.{null-rails}

module _ {p : PipelineData} {l : Layout} (is : IsLayoutOf p l) (n : ℕ) (word : List Bool) (wide : length word ≡ width l (suc n)) (inner : suc n < l.last)
    (shape : Shape p.netlist p) (good : IsDelayInsensitive p) (s0 : State) (begins : IsBeginning is n word wide inner s0) (bit : ℕ) (within : bit < width l (suc n))
    (left : is_left_high (l.stage (suc n)) word (in_rail l (suc n) bit (bit_at word bit)) ≡ true) where
  abbrev own : StageData
  own = l.stage (suc n)

  le : suc n ≤ l.last
  le = omega (arith, inner)

  before : n < l.last
  before = omega (arith, inner)

  own_is : IsStage own
  own_is = is.is_stage (suc n) le

  abbrev base : Nets
  base = val own word Base

  cells : AreCellsOf p own
  cells = cells_are p shape l is (suc n) le

  -- the rail
  abbrev rail : ℕ
  rail = in_rail l (suc n) bit (bit_at word bit)

  rail_in : Member rail (stage_nets l (suc n))
  rail_in = rail-listed own bit (bit_at word bit) within

  abbrev spare : ℕ → Bool
  spare x = not (nat_eq x rail)

  -- all of the stage but the rail is low
  abbrev OnlyRail : Nets → Type 0
  OnlyRail v = (x : ℕ) → Member x (stage_nets l (suc n)) → (x ≡ rail → ⊥) → v x ≡ false

  rail_base : base rail ≡ true
  rail_base = named-within_values own word rail (Contains-from_Member rail (named-has own.inputs word wide bit within))

  -- no gate that is high at the word reads the rail
  not_read : (g : StageCell) → Member g own.cells → base (out_of g) ≡ true → (x : NetId) → Member x g.ins.items → x.0 ≡ rail → ⊥
  not_read g m top x r e =
      let reads : some_high (pin_values (only rail) g.ins.items) ≡ true =
      true_from_ne_false _ (λ low. both_ways (only rail x.0) (unfed-at (only rail) x g.ins.items low r) (ap (only rail) e ∙ with_net-here no_nets rail true)) in
      both_ways (list_any (is_held_up own word rail) own.cells) (not-true _ (and_parts (is_null own.outputs (only rail)) _ left).1)
      (list_any-from_member (is_held_up own word rail) g m (and_from _ _ top reads))

  -- nor is it an output
  no_output : (j : ℕ) (r : Bool) → j < width l (suc (suc n)) → out_rail l (suc n) j r ≡ rail → ⊥
  no_output j r lj e = by_rail r e
    where
      nulls : (not (only rail (rail_at own.outputs j false) || only rail (rail_at own.outputs j true))) ≡ true
      nulls =
          list_all-member (λ (q : Rails). not (only rail q.zero.0 || only rail q.one.0)) own.outputs (and_parts (is_null own.outputs (only rail)) _ left).0
          (get_or own.outputs j no_rails) (Member-get_or own.outputs j no_rails (in_outputs is (suc n) j inner lj))

      lows : (only rail (rail_at own.outputs j false) ≡ false) × (only rail (rail_at own.outputs j true) ≡ false)
      lows = or_parts _ _ (not-true _ nulls)

      by_rail : (r : Bool) → rail_at own.outputs j r ≡ rail → ⊥
      by_rail true same = both_ways (only rail (rail_at own.outputs j true)) lows.1 (ap (only rail) same ∙ with_net-here no_nets rail true)
      by_rail false same = both_ways (only rail (rail_at own.outputs j false)) lows.0 (ap (only rail) same ∙ with_net-here no_nets rail true)

  below_base : (v : Nets) → OnlyRail v → (x : ℕ) → Member x (stage_nets l (suc n)) → v x ≡ true → base x ≡ true
  below_base v alone x k up = elim (cases_eq x rail) [
    | inl e ↦ ap base e ∙ rail_base
    | inr apart ↦ absurd (both_ways (v x) (alone x k apart) up)
  ]

  -- a gate that is excited below the values and goes high is high in them
  high_in_base : (v : Nets) → ((x : ℕ) → Member x (stage_nets l (suc n)) → v x ≡ true → base x ≡ true) → (g : StageCell) → Member g own.cells → IsExcited v g → next_of_gate v g ≡ true → base (out_of g) ≡ true
  high_in_base v below g m excited high =
      let set : holds base g ≡ true =
      set_of-grows g.kind v base g.ins.items (recursion_from_members (λ (x : NetId). v x.0 ≡ true → base x.0 ≡ true) g.ins.items (λ x r up. below x.0 (inputs-listed own_is g m x r) up))
      (holds-excited v g excited high) in
      val-settled own word Base g m (and_from (not (kept_low own Base g.out.0)) _ refl set)

  -- so where all but the rail is low, each gate stays low, and each rail, where the bank after the stage asks for NULL
  gate_low : (v : Nets) → OnlyRail v → (g : StageCell) → Member g own.cells → IsExcited v g → next_of_gate v g ≡ false
  gate_low v alone g m excited = false_from_ne_true _ (λ high.
      let top : base (out_of g) ≡ true = high_in_base v (below_base v alone) g m excited high in
      both_ways (next_of_gate v g) (next-from_unfed v g (some_high-low v g.ins.items (λ x r. alone x.0 (inputs-listed own_is g m x r) (λ e. not_read g m top x r e)))) high)

  only_kept : (t : State) → t.value (l.root (suc n)) ≡ false → OnlyRail t.value → (item : Item) (can : enabled p t item ≡ true) → OnlyRail (step p t item).value
  only_kept t root_low alone item can x m apart = elim (stage-moves is t item can (suc n) x le m) [
    | inl same ↦ same ∙ alone x m apart
    | inr moves ↦ by_move moves
  ]
    where
      by_move : MovesStage is t item can (suc n) x → (step p t item).value x ≡ false
      by_move (by_gate g k e excited is_next) = is_next ∙ gate_low t.value alone g k excited
      by_move (by_register i j r one li lj e a_is b_is is_next) = absurd (both_ways _ (ap (λ k. t.value (l.root k)) one ∙ root_low) (b_is ∙ ap not (alone x m apart)))
      by_move (by_source b zero_is at which) = absurd (omega (arith, zero_is))

  -- ---- the bank after the stage acknowledges, and all of the stage but the rail falls

  acks_found : (run : List Item) × Acknowledged is n word wide inner s0 run
  acks_found = acknowledges is n word wide inner shape good s0 begins.reached begins.holding begins.asks

  abbrev found : Acknowledged is n word wide inner s0 acks_found.0
  found = acks_found.1

  abbrev u : State
  u = after p s0 found.first

  u_reached : IsReached p [] u
  u_reached = reached-run p [] begins.reached found.first found.is_run

  abbrev down : Item → Bool
  down = of_stage p l (suc n) spare

  abbrev fall : ends.StopsAmong is (cells_are p shape l is) down u
  fall = ends.stops-among is (cells_are p shape l is) down u

  abbrev u2 : State
  u2 = after p u fall.run

  u2_reached : IsReached p [] u2
  u2_reached = reached-run p [] u_reached fall.run fall.is_run

  record IsFalling (t : State) : Type 0 where
    pub root_low : t.value (l.root (suc n)) ≡ false
    pub low : (x : ℕ) → Member x (stage_nets l n) → t.value x ≡ false
    pub high : t.value rail ≡ true
    pub below : (x : ℕ) → Member x (stage_nets l (suc n)) → t.value x ≡ true → base x ≡ true

  falling_kept : (t : State) (item : Item) → IsFalling t → enabled p t item ≡ true → down item ≡ true → IsFalling (step p t item)
  falling_kept t item f can picked = record {
    root_low = other-stays p l (suc n) spare t item picked (l.root (suc n)) (λ m k. is.apart (suc n) (suc n) (l.root (suc n)) le le m (root-listed is (suc n) le)) ∙ f.root_low;
    low = λ x m. other-stays p l (suc n) spare t item picked x (λ k q. let same = is.stages_apart (suc n) n x le (omega (arith, inner)) k m in omega (arith, same)) ∙ f.low x m;
    high = other-stays p l (suc n) spare t item picked rail (λ k q. both_ways (spare rail) (ap not (eq-eqb rail rail refl)) q) ∙ f.high;
    below = λ x m up. elim (stage-moves is t item can (suc n) x le m) [ inl same ↦ f.below x m (sym same ∙ up) | inr moves ↦ by_move x m up moves ];
  }
    where
      by_move : (x : ℕ) → Member x (stage_nets l (suc n)) → (step p t item).value x ≡ true → MovesStage is t item can (suc n) x → base x ≡ true
      by_move x m up (by_gate g k e excited is_next) = ap base (sym e) ∙ high_in_base t.value f.below g k excited (sym is_next ∙ up)
      by_move x m up (by_register i j r one li lj e a_is b_is is_next) =
          let same : i ≡ n = omega (arith, one) in
          absurd (both_ways (t.value (out_rail l i j r)) (f.low (out_rail l i j r) (subst (λ k. Member (out_rail l i j r) (stage_nets l k)) same (out-listed is i j r li lj))) (a_is ∙ sym is_next ∙ up))
      by_move x m up (by_source b zero_is at which) = absurd (omega (arith, zero_is))

  fallen : IsFalling u2
  fallen = run-among p down IsFalling falling_kept fall.run u (record {
    root_low = found.asks_null;
    low = found.holding.low;
    high = bank-full is n word wide inner found.holding bit within;
    below = found.holding.below;
  }) fall.is_run fall.among

  rail_low : (j : ℕ) (r : Bool) → j < width l (suc n) → (in_rail l (suc n) j r ≡ rail → ⊥) → u2.value (in_rail l (suc n) j r) ≡ false
  rail_low j r lj apart = false_from_ne_true _ (λ high.
      let (i, c, at_c, on) = is.register_at n j r before lj in
      let listed : Member c.out.0 (stage_nets l (suc n)) = subst (λ x. Member x (stage_nets l (suc n))) (sym on.out) (rail-listed own j r lj) in
      let free : spare c.out.0 ≡ true = ap not (ne_eqb c.out.0 rail (λ e. apart (sym on.out ∙ e))) in
      both_ways (enabled p u2 (Fire (record { 0 = i }))) (fall.quiet (Fire (record { 0 = i })) (picks-cell p l (suc n) spare (record { 0 = i }) c at_c listed free))
      (cell-enabled p u2 (record { 0 = i }) c at_c
      (register-excited u2.value c (out_rail l n j r) (l.root (suc n)) (in_rail l (suc n) j r) on false (fallen.low (out_rail l n j r) (out-listed is n j r before lj)) fallen.root_low high)))

  u2_only : OnlyRail u2.value
  u2_only = in_order own own_is (λ x. (x ≡ rail → ⊥) → u2.value x ≡ false)
      (λ x listed apart. let (j, r, lj, e) = rail-place own.inputs x listed in ap u2.value e ∙ rail_low j r lj (λ q. apart (e ∙ q)))
      (λ g m reads apart. false_from_ne_true _ (λ high.
      let top : base (out_of g) ≡ true = fallen.below (out_of g) (gate-listed own g m) high in
      let unfed : IsUnfed u2.value g = some_high-low u2.value g.ins.items (λ x r. reads x r (λ e. not_read g m top x r e)) in
      both_ways (enabled p u2 (Fire g.cell)) (fall.quiet (Fire g.cell) (picks-gate p l (suc n) spare cells g m (ap not (ne_eqb (out_of g) rail apart))))
      (gate-enabled p l (suc n) cells u2 g m
      (excited-from_unfed (set_of g.kind (pin_values u2.value g.ins.items)) (some_high (pin_values u2.value g.ins.items)) (u2.value g.out.0) high (set_of-low g.kind (pin_values u2.value g.ins.items) unfed) unfed))))

  -- ---- all goes on but the register cell of the rail

  register : (i : ℕ) × (c : Cell) × CellAt p.netlist i c × IsRegisterOf l n bit (bit_at word bit) c
  register = is.register_at n bit (bit_at word bit) before within

  abbrev cell : CellId
  cell = record { 0 = register.0 }

  u2_can : enabled p u2 (Fire cell) ≡ true
  u2_can = cell-enabled p u2 cell register.1 register.2
      (register-excited u2.value register.1 (out_rail l n bit (bit_at word bit)) (l.root (suc n)) rail register.3 false
      (fallen.low _ (out-listed is n bit (bit_at word bit) before within)) fallen.root_low fallen.high)

  record IsWaiting (t : State) : Type 0 where
    pub reached : IsReached p [] t
    pub can : enabled p t (Fire cell) ≡ true
    pub high : t.value rail ≡ true
    pub alone : OnlyRail t.value

  -- the register cell is excited, so the bank after the stage asks for NULL
  asks_null : {t : State} → IsWaiting t → t.value (l.root (suc n)) ≡ false
  asks_null {t} w =
      (register-turns t.value register.1 (out_rail l n bit (bit_at word bit)) (l.root (suc n)) rail register.3 (cell-excited p t cell register.1 register.2 w.can)).1 ∙ ap not w.high

  waiting_kept : (t : State) (item : Item) → IsWaiting t → enabled p t item ≡ true → avoids p rail item ≡ true → IsWaiting (step p t item)
  waiting_kept t item w can avoided = record {
    reached = reached-run p [] w.reached (item ∷ []) (can, tt);
    can = stays-enabled p good cell (item ∷ []) t w.reached (can, tt) (λ x m. elim (member_cases x item [] m) [
      | inl e ↦ avoids-cell p rail cell register.1 register.2 register.3.out x (subst (λ y. avoids p rail y ≡ true) e avoided)
      | inr none ↦ elim none [ ]
    ]) w.can;
    high = avoided-stays is (suc n) (omega arith) le rail rail_in t item avoided ∙ w.high;
    alone = only_kept t (asks_null w) w.alone item can;
  }

  abbrev rest : ends.StopsAmong is (cells_are p shape l is) (avoids p rail) u2
  rest = ends.stops-among is (cells_are p shape l is) (avoids p rail) u2

  abbrev t : State
  t = after p u2 rest.run

  waiting : IsWaiting t
  waiting = run-among p (avoids p rail) IsWaiting waiting_kept rest.run u2 (record { reached = u2_reached; can = u2_can; high = fallen.high; alone = u2_only }) rest.is_run rest.among

  root_low : t.value (l.root (suc n)) ≡ false
  root_low = asks_null waiting

  abbrev Behind : Nets → Type 0
  Behind = IsBehind is (suc n) inner t rail rail_in rest.quiet

  cannot : (i : ℕ) (d : Cell) → CellAt p.netlist i d → (d.out.0 ≡ rail → ⊥) → differ (next_value t.value d) (t.value d.out.0) ≡ true → ⊥
  cannot = cell_still is (suc n) inner t rail rail_in rest.quiet

  output_low : (v : Nets) → OnlyRail v → (j : ℕ) (r : Bool) → j < width l (suc (suc n)) → v (out_rail l (suc n) j r) ≡ false
  output_low v alone j r lj = alone (out_rail l (suc n) j r) (out-listed is (suc n) j r inner lj) (no_output j r lj)

  -- a rail of the bank after the stage that is high stays so for ever
  next_low : (j : ℕ) (r : Bool) → j < width l (suc (suc n)) → t.value (in_rail l (suc (suc n)) j r) ≡ false
  next_low j r lj = false_from_ne_true _ (λ high.
      let (run, is_run, quiet) = ends.stops is (cells_are p shape l is) t in
      let reached = reached-run p [] waiting.reached run is_run in
      let (alone, behind) = run-keeps p Stuck (stuck_kept high) run t (waiting.alone, behind-itself is (suc n) inner t rail rail_in rest.quiet) is_run in
      let rests = good.at_rest [] reached.items tt reached.is_run (subst (IsQuiet p) (sym reached.leads) quiet) in
      let low = null-rails p shape l is (after p (reset p []) reached.items).value rests.null (suc n) j r inner lj in
      both_ways ((after p t run).value (in_rail l (suc (suc n)) j r)) (ap (λ (x : State). x.value (in_rail l (suc (suc n)) j r)) (sym reached.leads) ∙ low)
      (behind.stages (suc (suc n)) (in_rail l (suc (suc n)) j r) (omega arith) inner listed ∙ high))
    where
      listed : Member (in_rail l (suc (suc n)) j r) (stage_nets l (suc (suc n)))
      listed = rail-listed (l.stage (suc (suc n))) j r lj

      Stuck : State → Type 0
      Stuck x = OnlyRail x.value × Behind x.value

      asking : t.value (in_rail l (suc (suc n)) j r) ≡ true → t.value (l.root (suc (suc n))) ≡ true
      asking high = true_from_ne_false _ (λ low.
          let (i, c, at_c, on) = is.register_at (suc n) j r inner lj in
          cannot i c at_c
          (λ e. let same = is.stages_apart (suc (suc n)) (suc n) rail inner le (subst (λ x. Member x (stage_nets l (suc (suc n)))) (sym on.out ∙ e) listed) rail_in in omega (arith, same))
          (register-excited t.value c (out_rail l (suc n) j r) (l.root (suc (suc n))) (in_rail l (suc (suc n)) j r) on false (output_low t.value waiting.alone j r lj) low high))

      stuck_kept : t.value (in_rail l (suc (suc n)) j r) ≡ true → (x : State) (item : Item) → Stuck x → enabled p x item ≡ true → Stuck (step p x item)
      stuck_kept high x item (alone, behind) can = (
        only_kept x (behind.trees (suc n) (l.root (suc n)) (omega arith) le (root-listed is (suc n) le) ∙ root_low) alone item can,
        behind-kept is (suc n) inner t rail rail_in rest.quiet x behind
            (λ i q li a_is b_is.
            both_ways (not (x.value (in_rail l (suc (suc n)) i q))) (sym a_is ∙ output_low x.value alone i q li)
            (sym b_is ∙ behind.trees (suc (suc n)) (l.root (suc (suc n))) (omega arith) inner (root-listed is (suc (suc n)) inner) ∙ asking high)) item can,
      )

  -- so the bank after the stage is NULL, and asks for DATA
  pub not_late : ⊥
  not_late = both_ways (t.value (l.root (suc n))) root_low
      (tree-settled is t.value (suc n) inner false (λ b lb. or_from _ _ (next_low b false lb) (next_low b true lb))
      (λ c m excited.
      let (i, at_c) = slice_get-from_Contains p.netlist.cells c (is.tree_cell (suc n) c inner m).0 in
      cannot i c at_c (λ e. is.apart (suc n) (suc n) rail le le rail_in (subst (λ x. Member x (l.tree_nets (suc n))) e (tree-listed is (suc n) c inner m))) excited)
      (l.root (suc n)) (root-listed is (suc n) le))
