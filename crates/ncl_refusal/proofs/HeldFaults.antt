-- What a delay-insensitive pipeline owes at a word that a bank holds at reset, in the stage after the bank: one high rail of
-- each output, and no orphan.
use Rattle.ncl_refusal.proofs.Terms.{AreCellsOf, Base, Bool, Cell, CellAt, Contains, Contains-from_Member, Contains-from_slice_get, Fire, IsDelayInsensitive, IsExcited, IsLayoutOf, IsLegalState, IsStage, IsUnfed, Item, Layout, List, Member, Member-from_Contains, Member-get_or, Nets, PipelineData, Rails, ReadsNew, Shape, Some, StageCell, StageData, State, Without, [], after, all_are_new, all_data, and_from, and_parts, ap, arith, both_ways, cases_Bool, cases_eq, cells_are, differ, enabled, eq-eqb, excited-from_unfed, false, false_from_ne_true, gate-listed, get_or, has_data, in_bit, in_order, in_outputs, in_rail, in_stage, in_tree, inl, inputs-listed, inr, is_illegal, kept_low, length, list_all-member, local-at, nat_eq, ne_eqb, next-from_unfed, next_of_gate, next_value, no_rails, not, old_is_turning, out-listed, out_of, out_rail, output-listed, output_net, outputs-listed, pin_values, rail-data, rail-listed, rail-no_output, rail-place, rail-within, rail_at, refl, register-excited, root-listed, same_output, set_of, set_of-low, slice_get, slice_get-from_Contains, some-rail, some_high, some_high-low, stage_nets, step, subst, suc, sym, tree-listed, true, true_from_ne_false, val, waits-from_excited, width, ℕ, ◌<◌, ◌∙◌, ◌≡◌, ◌≢◌, ◌≤◌}
use Rattle.ncl_refusal.proofs.Behind.{IsBehind, avoids, behind-itself, behind-kept, cell_still}
use Rattle.ncl_refusal.proofs.Ends as ends
use Rattle.ncl_refusal.proofs.HeldRuns.{cell-enabled, gate-enabled, gate-excited, avoids-cell, of_stage, of_stage-cell, other-stays, picks-cell, picks-gate, run-among, stays-enabled}
use Rattle.ncl_refusal.proofs.HeldStage.{Acknowledged, Asks, GoesOn, IsBeginning, IsHolding, goes_on, holding-kept, not_full, reaches}
use Rattle.ncl_refusal.proofs.Reaching.{IsReached, reached-run, run-keeps}

module _ {p : PipelineData} {l : Layout} (is : IsLayoutOf p l) (n : ℕ) (word : List Bool) (wide : length word ≡ width l (suc n)) (inner : suc n < l.last)
    (shape : Shape p.netlist p) (good : IsDelayInsensitive p) (s0 : State) (begins : IsBeginning is n word wide inner s0) where
  abbrev own : StageData
  own = l.stage (suc n)

  le : suc n ≤ l.last
  le = omega (arith, inner)

  own_is : IsStage own
  own_is = is.is_stage (suc n) le

  abbrev base : Nets
  base = val own word Base

  cells : AreCellsOf p own
  cells = cells_are p shape l is (suc n) le

  abbrev pub Holding : Nets → Type 0
  Holding = IsHolding is n word wide inner

  abbrev pub AsksData : Nets → Type 0
  AsksData = Asks is n word wide inner

  -- ---- the stage rises alone

  -- the state once its gates have risen whose output is free to move
  pub record HasRisen (free : ℕ → Bool) : Type 0 where
    pub end : State
    pub reached : IsReached p [] end
    pub holding : Holding end.value
    pub asks : AsksData end.value
    pub spared : (net : ℕ) → Member net (stage_nets l (suc n)) → free net ≡ false → end.value net ≡ s0.value net
    pub others : (net : ℕ) → (Member net (stage_nets l (suc n)) → ⊥) → end.value net ≡ s0.value net
    pub still : (g : StageCell) → Member g own.cells → free (out_of g) ≡ true → IsExcited end.value g → ⊥

  pub risen : (free : ℕ → Bool) → HasRisen free
  risen free =
      let all = ends.stops-among is (cells_are p shape l is) (of_stage p l (suc n) free) s0 in
      let end : State = after p s0 all.run in
      let (holds, asks, same, others) = run-among p (of_stage p l (suc n) free) Kept keeps all.run s0 (begins.holding, begins.asks, λ net m fixed. refl, λ net m. refl) all.is_run all.among in
      record {
        end = end;
        reached = reached-run p [] begins.reached all.run all.is_run;
        holding = holds;
        asks = asks;
        spared = same;
        others = others;
        still = λ g m is_free excited. both_ways (enabled p end (Fire g.cell)) (all.quiet (Fire g.cell) (picks-gate p l (suc n) free cells g m is_free)) (gate-enabled p l (suc n) cells end g m excited);
      }
    where
      Kept : State → Type 0
      Kept t = Holding t.value × AsksData t.value × ((net : ℕ) → Member net (stage_nets l (suc n)) → free net ≡ false → t.value net ≡ s0.value net) × ((net : ℕ) → (Member net (stage_nets l (suc n)) → ⊥) → t.value net ≡ s0.value net)

      keeps : (t : State) (item : Item) → Kept t → enabled p t item ≡ true → of_stage p l (suc n) free item ≡ true → Kept (step p t item)
      keeps t item (h, asks, same, others) can picked = (
        holding-kept is n word wide inner t h asks item can,
        other-stays p l (suc n) free t item picked (l.root (suc n)) (λ m f. is.apart (suc n) (suc n) (l.root (suc n)) le le m (root-listed is (suc n) le)) ∙ asks,
        λ net m fixed. other-stays p l (suc n) free t item picked net (λ k f. both_ways (free net) fixed f) ∙ same net m fixed,
        λ net none. other-stays p l (suc n) free t item picked net (λ k f. none k) ∙ others net none,
      )

  -- ---- one high rail of each output

  pub not_illegal : Contains p.stages own → (r : Rails) → Member r own.outputs → is_illegal base r ≡ false
  not_illegal listed r m = false_from_ne_true _ (λ both.
      let all = risen (λ x. true) in
      let (zero_high, one_high) = and_parts (base r.zero.0) (base r.one.0) both in
      let (zero_in, one_in) = outputs-listed own_is r m in
      let high : (net : ℕ) → Member net (stage_nets l (suc n)) → base net ≡ true → all.end.value net ≡ true =
      reaches is n word wide inner Base all.end.value all.holding (λ g k free. all.still g k refl) in
      let legal : IsLegalState p all.end = subst (IsLegalState p) all.reached.leads (good.safe.legal [] all.reached.items tt all.reached.is_run) in
      both_ways _ (legal.outputs own r listed (Contains-from_Member r m)) (and_from _ _ (high r.zero.0 zero_in zero_high) (high r.one.0 one_in one_high)))

  -- ---- no orphan

  module _ (place : ℕ) (g : StageCell) (at : slice_get own.cells place ≡ Some g) (high : base (out_of g) ≡ true) (full : all_data own (val own word (Without place)) ≡ true) where
    abbrev spare : ℕ → Bool
    spare x = not (nat_eq x (out_of g))

    g_in : Member g own.cells
    g_in = Member-from_Contains own.cells g (Contains-from_slice_get own.cells place g at)

    abbrev net : ℕ
    net = out_of g

    net_in : Member net (stage_nets l (suc n))
    net_in = gate-listed own g g_in

    s1 : HasRisen spare
    s1 = risen spare

    g_low : s1.end.value net ≡ false
    g_low = s1.spared net net_in (ap not (eq-eqb net net refl)) ∙ begins.gates g g_in

    others_still : (c : StageCell) → Member c own.cells → (out_of c ≡ net → ⊥) → IsExcited s1.end.value c → ⊥
    others_still c m apart = s1.still c m (ap not (ne_eqb (out_of c) net apart))

    -- the cell is excited, else the stage had come to its values
    g_excited : IsExcited s1.end.value g
    g_excited = true_from_ne_false _ (λ none.
        both_ways (s1.end.value net) g_low (reaches is n word wide inner Base s1.end.value s1.holding
        (λ c m free excited. elim (cases_eq (out_of c) net) [
          | inl same ↦ both_ways _ none (subst (λ k. IsExcited s1.end.value k) (same_output own own_is c g m g_in same) excited)
          | inr apart ↦ others_still c m apart excited
        ]) net net_in high))

    abbrev rest : ends.StopsAmong is (cells_are p shape l is) (avoids p net) s1.end
    rest = ends.stops-among is (cells_are p shape l is) (avoids p net) s1.end

    not_cell : (item : Item) → avoids p net item ≡ true → item ≢ Fire g.cell
    not_cell = let (c, at_c, same) = cells g g_in in avoids-cell p net g.cell c at_c same.out

    -- the bank after the stage acknowledges without the cell, and the cell goes on being excited; then all of the stage falls
    module _ (found : Acknowledged is n word wide inner s1.end rest.run) where
      abbrev u : State
      u = after p s1.end found.first

      u_reached : IsReached p [] u
      u_reached = reached-run p [] s1.reached found.first found.is_run

      u_can : enabled p u (Fire g.cell) ≡ true
      u_can = stays-enabled p good g.cell found.first s1.end s1.reached found.is_run (λ item m. not_cell item (rest.among item (found.among item m))) (gate-enabled p l (suc n) cells s1.end g g_in g_excited)

      u_low : u.value net ≡ false
      u_low = (waits-from_excited u.value g (found.holding.rises g g_in) (gate-excited p l (suc n) cells u g g_in u_can)).0

      abbrev down : Item → Bool
      down = of_stage p l (suc n) spare

      abbrev fall : ends.StopsAmong is (cells_are p shape l is) down u
      fall = ends.stops-among is (cells_are p shape l is) down u

      abbrev end : State
      end = after p u fall.run

      abbrev Kept : State → Type 0
      Kept t = (t.value (l.root (suc n)) ≡ false) × ((x : ℕ) → Member x (stage_nets l n) → t.value x ≡ false) × (t.value net ≡ false)

      kept : Kept end
      kept = run-among p down Kept keeps fall.run u (found.asks_null, found.holding.low, u_low) fall.is_run fall.among
        where
          keeps : (t : State) (item : Item) → Kept t → enabled p t item ≡ true → down item ≡ true → Kept (step p t item)
          keeps t item (root_low, before_low, low) can picked = (
            other-stays p l (suc n) spare t item picked (l.root (suc n)) (λ m f. is.apart (suc n) (suc n) (l.root (suc n)) le le m (root-listed is (suc n) le)) ∙ root_low,
            λ x m. other-stays p l (suc n) spare t item picked x (λ k f. let same = is.stages_apart (suc n) n x le (omega (arith, inner)) k m in omega (arith, same)) ∙ before_low x m,
            other-stays p l (suc n) spare t item picked net (λ k f. both_ways (spare net) (ap not (eq-eqb net net refl)) f) ∙ low,
          )

      rail_low : (j : ℕ) (r : Bool) → j < width l (suc n) → end.value (in_rail l (suc n) j r) ≡ false
      rail_low j r lj = false_from_ne_true _ (λ high.
          let (i, c, at_c, on) = is.register_at n j r (omega (arith, inner)) lj in
          let listed : Member c.out.0 (stage_nets l (suc n)) = subst (λ x. Member x (stage_nets l (suc n))) (sym on.out) (rail-listed own j r lj) in
          let free : spare c.out.0 ≡ true = ap not (ne_eqb c.out.0 net (λ e. rail-no_output own own_is (in_rail l (suc n) j r) (rail-within own.inputs j r lj) g g_in (sym (sym on.out ∙ e)))) in
          both_ways (enabled p end (Fire (record { 0 = i }))) (fall.quiet (Fire (record { 0 = i })) (picks-cell p l (suc n) spare (record { 0 = i }) c at_c listed free))
          (cell-enabled p end (record { 0 = i }) c at_c
          (register-excited end.value c (out_rail l n j r) (l.root (suc n)) (in_rail l (suc n) j r) on false (kept.1 (out_rail l n j r) (out-listed is n j r (omega (arith, inner)) lj)) kept.0 high)))

      all_low : (x : ℕ) → Member x (stage_nets l (suc n)) → end.value x ≡ false
      all_low = in_order own own_is (λ x. end.value x ≡ false)
          (λ x rail. let (j, r, lj, e) = rail-place own.inputs x rail in ap end.value e ∙ rail_low j r lj)
          (λ c m reads. elim (cases_eq (out_of c) net) [
            | inl same ↦ ap end.value same ∙ kept.2
            | inr apart ↦ false_from_ne_true _ (λ high.
                let unfed : IsUnfed end.value c = some_high-low end.value c.ins.items reads in
                both_ways (enabled p end (Fire c.cell)) (fall.quiet (Fire c.cell) (picks-gate p l (suc n) spare cells c m (ap not (ne_eqb (out_of c) net apart))))
                (gate-enabled p l (suc n) cells end c m
                (excited-from_unfed (set_of c.kind (pin_values end.value c.ins.items)) (some_high (pin_values end.value c.ins.items)) (end.value c.out.0) high (set_of-low c.kind (pin_values end.value c.ins.items) unfed) unfed)))
          ])

      acknowledged-lost : ⊥
      acknowledged-lost =
          let (c, at_c, same) = cells g g_in in
          let fixed : spare c.out.0 ≡ false = ap not (eq-eqb c.out.0 net same.out) in
          let excited : IsExcited end.value g =
          gate-excited p l (suc n) cells end g g_in (stays-enabled p good g.cell fall.run u u_reached fall.is_run (λ item m. of_stage-cell p l (suc n) spare g.cell c at_c fixed item (fall.among item m)) u_can) in
          let next : next_of_gate end.value g ≡ false = next-from_unfed end.value g (some_high-low end.value g.ins.items (λ x r. all_low x.0 (inputs-listed own_is g g_in x r))) in
          both_ways _ (ap (λ x. differ x (end.value net)) next ∙ ap (differ false) (all_low net net_in)) excited

    -- the bank after the stage never acknowledges
    module _ (all : GoesOn is n word wide inner s1.end rest.run) where
      abbrev t : State
      t = after p s1.end rest.run

      t_reached : IsReached p [] t
      t_reached = reached-run p [] s1.reached rest.run rest.is_run

      abbrev Behind : Nets → Type 0
      Behind = IsBehind is (suc n) inner t net net_in rest.quiet

      cannot : (i : ℕ) (d : Cell) → CellAt p.netlist i d → (d.out.0 ≡ net → ⊥) → differ (next_value t.value d) (t.value d.out.0) ≡ true → ⊥
      cannot = cell_still is (suc n) inner t net net_in rest.quiet

      -- a rail of each output is high
      output_high : (j : ℕ) → j < length own.outputs → (r : Bool) × (t.value (rail_at own.outputs j r) ≡ true)
      output_high j lj =
          let (r, up) = some-rail (val own word (Without place)) own.outputs j (list_all-member (has_data (val own word (Without place))) own.outputs full (get_or own.outputs j no_rails) (Member-get_or own.outputs j no_rails lj)) in
          let listed = output-listed own_is j r lj in (
            r,
            all.grown (rail_at own.outputs j r) listed (reaches is n word wide inner (Without place) s1.end.value s1.holding
                (λ c m free. others_still c m (λ e. both_ways (kept_low own (Without place) (out_of c)) free (ap (λ o. output_net o (out_of c)) at ∙ eq-eqb (out_of c) net e))) (rail_at own.outputs j r) listed up),
          )

      -- where the bank after that one asked for DATA, it had all of it, and the tree would turn
      asks_null : t.value (l.root (suc (suc n))) ≡ false
      asks_null = false_from_ne_true _ (λ asking.
          let (root, m, is_root) = is.root_in (suc n) inner in
          let new = all_are_new is (suc n) inner all.holding.follows (bits asking) still root m in
          both_ways (t.value (l.root (suc n))) (ap t.value (sym is_root) ∙ sym (local-at (l.tree_nets (suc n)) t.value root.out.0 (tree-listed is (suc n) root inner m)) ∙ new) all.asks)
        where
          bits : t.value (l.root (suc (suc n))) ≡ true → (b : ℕ) → b < width l (suc (suc n)) → has_data (in_stage l t.value (suc (suc n))) (in_bit l (suc (suc n)) b) ≡ true
          bits asking b lb =
              let (r, up) = output_high b (in_outputs is (suc n) b inner lb) in
              let next : StageData = l.stage (suc (suc n)) in
              rail-data (in_stage l t.value (suc (suc n))) next.inputs b r (local-at (stage_nets l (suc (suc n))) t.value _ (rail-listed next b r lb) ∙ true_from_ne_false _ (λ low.
              let (i, c, at_c, on) = is.register_at (suc n) b r inner lb in
              cannot i c at_c
              (λ e. let same = is.stages_apart (suc (suc n)) (suc n) net inner le (subst (λ x. Member x (stage_nets l (suc (suc n)))) (sym on.out ∙ e) (rail-listed next b r lb)) net_in in omega (arith, same))
              (register-excited t.value c (out_rail l (suc n) b r) (l.root (suc (suc n))) (in_rail l (suc (suc n)) b r) on true up asking low)))

          still : (c : Cell) → Member c (l.tree (suc n)) → in_tree l t.value (suc n) c.out.0 ≡ true → ReadsNew (in_stage l t.value (suc (suc n))) (in_tree l t.value (suc n)) true c → ⊥
          still c m old reads =
              let listed = tree-listed is (suc n) c inner m in
              let (i, at_c) = slice_get-from_Contains p.netlist.cells c (is.tree_cell (suc n) c inner m).0 in
              cannot i c at_c (λ e. is.apart (suc n) (suc n) net le le net_in (subst (λ x. Member x (l.tree_nets (suc n))) e listed))
              (old_is_turning is (suc n) inner t.value true c m (sym (local-at (l.tree_nets (suc n)) t.value c.out.0 listed) ∙ old) reads)

      abbrev Stuck : State → Type 0
      Stuck x = Holding x.value × Behind x.value

      stuck_kept : (x : State) (item : Item) → Stuck x → enabled p x item ≡ true → Stuck (step p x item)
      stuck_kept x item (h, behind) can = (
        holding-kept is n word wide inner x h (behind.trees (suc n) (l.root (suc n)) (omega arith) le (root-listed is (suc n) le) ∙ all.asks) item can,
        behind-kept is (suc n) inner t net net_in rest.quiet x behind
            (λ j r lj a_is b_is. elim (cases_Bool (x.value (in_rail l (suc (suc n)) j r))) [
              | inl up ↦ both_ways _ (a_is ∙ ap not up) (h.up j r lj up)
              | inr low ↦ both_ways _ (behind.trees (suc (suc n)) (l.root (suc (suc n))) (omega arith) inner (root-listed is (suc (suc n)) inner) ∙ asks_null) (b_is ∙ ap not low)
            ]) item can,
      )

      goes_on-stuck : ⊥
      goes_on-stuck =
          let (run, is_run, quiet) = ends.stops is (cells_are p shape l is) t in
          let (h, behind) = run-keeps p Stuck stuck_kept run t (all.holding, behind-itself is (suc n) inner t net net_in rest.quiet) is_run in
          not_full is n word wide inner shape good (after p t run) (reached-run p [] t_reached run is_run) quiet h

    pub no_orphan : ⊥
    no_orphan = elim (goes_on is n word wide inner rest.run s1.end s1.holding s1.asks rest.is_run) [
      | inl all ↦ goes_on-stuck all
      | inr found ↦ acknowledged-lost found
    ]
