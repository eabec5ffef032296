-- Runs of a delay-insensitive pipeline that spare a net, and of the cells of one stage alone.
use Rattle.ncl_refusal.proofs.Terms.{AreCellsOf, Bool, Cell, CellAt, CellId, Fire, IsDelayInsensitive, IsExcited, IsLayoutOf, IsPersistent, IsRunFrom, Item, Layout, List, Lower, Member, NetId, Nets, None, Option, PipelineData, Raise, ReadsNew, Ready, Some, StageCell, State, Take, [], after, among, among-from_member, and_from, and_parts, ap, arith, both_ways, current_rails, differ, enabled, eq-eqb, false, fired, gate-listed, gate-next, has_data, here, in_bit, in_rail, in_stage, in_tree, inl, inr, is_excited, ki-listed, list_all, local-at, lowered-value, member-from_among, member_of_map, nat_eq, nets_new, next_of_gate, next_value, not, not-true, old_is_turning, out_of, put_at, rail-listed, reads-bit, refl, same_or_not, slice_get, stage_nets, step, subst, suc, sym, there, tree-listed, true, up_the_tree, width, with_net-elsewhere, ℕ, ◌&&◌, ◌<◌, ◌||◌, ◌∙◌, ◌∷◌, ◌≡◌, ◌≢◌, ◌≤◌}
use Rattle.ncl_refusal.proofs.Behind.{avoids, passes_at, picks}
use Rattle.ncl_refusal.proofs.Does.{current-listed}
use Rattle.ncl_refusal.proofs.Reaching.{IsReached, reached-run}

-- a cell that is excited, at its place
pub cell-enabled : (p : PipelineData) (t : State) (i : CellId) (c : Cell) → CellAt p.netlist i.0 c → differ (next_value t.value c) (t.value c.out.0) ≡ true → enabled p t (Fire i) ≡ true
cell-enabled p t i c at excited = ap (is_excited t.value) at ∙ excited

pub cell-excited : (p : PipelineData) (t : State) (i : CellId) (c : Cell) → CellAt p.netlist i.0 c → enabled p t (Fire i) ≡ true → differ (next_value t.value c) (t.value c.out.0) ≡ true
cell-excited p t i c at can = sym (ap (is_excited t.value) at) ∙ can

-- a gate of a stage that is excited is enabled
pub gate-enabled : (p : PipelineData) (l : Layout) (k : ℕ) → AreCellsOf p (l.stage k) → (t : State) (g : StageCell) → Member g (l.stage k).cells → IsExcited t.value g → enabled p t (Fire g.cell) ≡ true
gate-enabled p l k cells t g m excited =
    let (c, at, same) = cells g m in
    cell-enabled p t g.cell c at (ap (λ x. differ x (t.value c.out.0)) (gate-next t.value c g same) ∙ ap (λ x. differ (next_of_gate t.value g) (t.value x)) same.out ∙ excited)

pub gate-excited : (p : PipelineData) (l : Layout) (k : ℕ) → AreCellsOf p (l.stage k) → (t : State) (g : StageCell) → Member g (l.stage k).cells → enabled p t (Fire g.cell) ≡ true → IsExcited t.value g
gate-excited p l k cells t g m can =
    let (c, at, same) = cells g m in
    ap (λ x. differ (next_of_gate t.value g) (t.value x)) (sym same.out) ∙ ap (λ x. differ x (t.value c.out.0)) (sym (gate-next t.value c g same)) ∙ cell-excited p t g.cell c at can

-- an item of a cell that a test names changes no net that it doesn't name
pub picked-elsewhere : (p : PipelineData) (test : ℕ → Bool) (t : State) (item : Item) → picks p test false item ≡ true → (net : ℕ) → (test net ≡ true → ⊥) → (step p t item).value net ≡ t.value net
picked-elsewhere p test t (Fire i) picked net other = by (slice_get p.netlist.cells i.0) picked
  where
    by : (o : Option Cell) → passes_at test o ≡ true → fired t.value o net ≡ t.value net
    by None e = refl
    by (Some c) e = with_net-elsewhere t.value c.out.0 net (next_value t.value c) (λ same. other (subst (λ x. test x ≡ true) same e))
picked-elsewhere p test t (Raise b) picked net other = absurd (both_ways false refl picked)
picked-elsewhere p test t (Lower b) picked net other = absurd (both_ways false refl picked)
picked-elsewhere p test t Take picked net other = absurd (both_ways false refl picked)
picked-elsewhere p test t Ready picked net other = absurd (both_ways false refl picked)

module _ {p : PipelineData} {l : Layout} (is : IsLayoutOf p l) (k : ℕ) (first : 0 < k) (le : k ≤ l.last) (net : ℕ) (m : Member net (stage_nets l k)) where
  put-elsewhere : (t : State) (b : ℕ) (value : Bool) → put_at t.value (slice_get (current_rails p t) b) value net ≡ t.value net
  put-elsewhere t b value = by (slice_get (current_rails p t) b) refl
    where
      by : (o : Option ℕ) → slice_get (current_rails p t) b ≡ o → put_at t.value o value net ≡ t.value net
      by None e = refl
      by (Some x) e = with_net-elsewhere t.value x net value (λ same.
          let zero_is = is.stages_apart 0 k net (omega arith) le (subst (λ y. Member y (stage_nets l 0)) same (current-listed is t b x e)) m in
          omega (arith, zero_is, first))

  not_ki : p.ki ≢ net
  not_ki e = is.apart k l.last net le (omega arith) m (subst (λ x. Member x (l.tree_nets l.last)) e (ki-listed is))

  -- an item that avoids a net of a stage leaves it
  pub avoided-stays : (t : State) (item : Item) → avoids p net item ≡ true → (step p t item).value net ≡ t.value net
  avoided-stays t (Fire i) avoided = by (slice_get p.netlist.cells i.0) avoided
    where
      by : (o : Option Cell) → passes_at (λ x. not (nat_eq x net)) o ≡ true → fired t.value o net ≡ t.value net
      by None e = refl
      by (Some c) e = with_net-elsewhere t.value c.out.0 net (next_value t.value c) (λ same. both_ways (nat_eq c.out.0 net) (not-true _ e) (eq-eqb c.out.0 net same))
  avoided-stays t (Raise b) avoided = put-elsewhere t b true
  avoided-stays t (Lower b) avoided =
      ap (λ u. u net) (lowered-value t (put_at t.value (slice_get (current_rails p t) b) false) (list_all (λ x. not (put_at t.value (slice_get (current_rails p t) b) false x)) (current_rails p t)))
      ∙ put-elsewhere t b false
  avoided-stays t Take avoided = with_net-elsewhere t.value p.ki net false not_ki
  avoided-stays t Ready avoided = with_net-elsewhere t.value p.ki net true not_ki

-- it isn't the item of a cell that drives it
pub avoids-cell : (p : PipelineData) (net : ℕ) (i : CellId) (c : Cell) → CellAt p.netlist i.0 c → c.out.0 ≡ net → (item : Item) → avoids p net item ≡ true → item ≢ Fire i
avoids-cell p net i c at out item avoided e =
    both_ways (avoids p net (Fire i)) (ap (passes_at (λ x. not (nat_eq x net))) at ∙ ap not (eq-eqb c.out.0 net out)) (subst (λ x. avoids p net x ≡ true) e avoided)

-- ---- a tree

module _ {p : PipelineData} {l : Layout} (is : IsLayoutOf p l) where
  -- where each bit of a bank is as said, and no cell of its tree is excited, each cell of the tree has turned
  pub tree-settled : (v : Nets) (k : ℕ) (lt : k < l.last) (e : Bool) → ((b : ℕ) → b < width l (suc k) → has_data v (in_bit l (suc k) b) ≡ e)
      → ((c : Cell) → Member c (l.tree k) → differ (next_value v c) (v c.out.0) ≡ true → ⊥) → (net : ℕ) → Member net (l.tree_nets k) → v net ≡ not e
  tree-settled v k lt e bits still net m =
      let (c, in_c, same) = member_of_map (λ (c : Cell). c.out.0) (l.tree k) net (subst (Member net) (is.tree_outputs k lt) m) in
      ap v (sym same)
      ∙ up_the_tree is k lt (λ (c : Cell). v c.out.0 ≡ not e)
      (λ c in_c b lb on. up c in_c (reads-bit (in_stage l v (suc k)) (in_tree l v k) e c (in_bit l (suc k) b) on (local_bit b lb ∙ bits b lb)))
      (λ c in_c kind is_gate is_tree arity known.
      up c in_c (nets_new kind is_gate (λ x r. let (y, in_y, out, turned) = known x r in
      local-at (l.tree_nets k) v x.0 (subst (λ (q : NetId). Member q.0 (l.tree_nets k)) out (tree-listed is k y lt in_y)) ∙ ap (λ (q : NetId). v q.0) (sym out) ∙ turned)))
      c in_c
    where
      local_rail : (b : ℕ) (r : Bool) → b < width l (suc k) → in_stage l v (suc k) (in_rail l (suc k) b r) ≡ v (in_rail l (suc k) b r)
      local_rail b r lb = local-at (stage_nets l (suc k)) v (in_rail l (suc k) b r) (rail-listed (l.stage (suc k)) b r lb)

      local_bit : (b : ℕ) → b < width l (suc k) → has_data (in_stage l v (suc k)) (in_bit l (suc k) b) ≡ has_data v (in_bit l (suc k) b)
      local_bit b lb = ap (λ x. x || in_stage l v (suc k) (in_rail l (suc k) b true)) (local_rail b false lb) ∙ ap (λ x. v (in_rail l (suc k) b false) || x) (local_rail b true lb)

      up : (c : Cell) → Member c (l.tree k) → ReadsNew (in_stage l v (suc k)) (in_tree l v k) e c → v c.out.0 ≡ not e
      up c in_c reads = elim (same_or_not (v c.out.0) e) [ inl old ↦ absurd (still c in_c (old_is_turning is k lt v e c in_c old reads)) | inr new ↦ new ]

-- ---- persistence

-- from a state that a run reaches, a cell that is enabled stays so until it fires
pub stays-enabled : (p : PipelineData) → IsDelayInsensitive p → (i : CellId) (run : List Item) (t : State) → IsReached p [] t → IsRunFrom p t run → ((item : Item) → Member item run → item ≢ Fire i)
    → enabled p t (Fire i) ≡ true → enabled p (after p t run) (Fire i) ≡ true
stays-enabled p good i [] t reached is_run others can = can
stays-enabled p good i (item ∷ run) t reached is_run others can =
    let persistent : IsPersistent p t = subst (IsPersistent p) reached.leads (good.safe.persistent [] reached.items tt reached.is_run) in
    stays-enabled p good i run (step p t item) (reached-run p [] reached (item ∷ []) (is_run.0, tt)) is_run.1 (λ x m. others x (there m))
    (persistent item (Fire i) (others item here) is_run.0 can)

-- ---- what a run keeps

-- what each item of a kind keeps, and a run of such items
pub run-among : (p : PipelineData) (named : Item → Bool) (Kept : State → Type 0) → ((t : State) (item : Item) → Kept t → enabled p t item ≡ true → named item ≡ true → Kept (step p t item))
    → (run : List Item) (t : State) → Kept t → IsRunFrom p t run → ((item : Item) → Member item run → named item ≡ true) → Kept (after p t run)
run-among p named Kept keeps [] t kept is_run within = kept
run-among p named Kept keeps (item ∷ run) t kept is_run within =
    run-among p named Kept keeps run (step p t item) (keeps t item kept is_run.0 (within item here)) is_run.1 (λ x m. within x (there m))

-- ---- the cells of one stage

module _ (p : PipelineData) (l : Layout) (k : ℕ) (free : ℕ → Bool) where
  -- those of the register cells before it and of its gates whose output is free to move
  abbrev pub of_stage : Item → Bool
  of_stage = picks p (λ x. among (stage_nets l k) x && free x) false

  pub picks-gate : AreCellsOf p (l.stage k) → (g : StageCell) → Member g (l.stage k).cells → free (out_of g) ≡ true → of_stage (Fire g.cell) ≡ true
  picks-gate cells g m is_free =
      let (c, at, same) = cells g m in
      ap (passes_at (λ x. among (stage_nets l k) x && free x)) at
      ∙ ap (λ x. among (stage_nets l k) x && free x) same.out ∙ and_from _ _ (among-from_member (out_of g) (gate-listed (l.stage k) g m)) is_free

  pub other-stays : (t : State) (item : Item) → of_stage item ≡ true → (net : ℕ) → (Member net (stage_nets l k) → free net ≡ true → ⊥) → (step p t item).value net ≡ t.value net
  other-stays t item picked net other =
      picked-elsewhere p (λ x. among (stage_nets l k) x && free x) t item picked net
      (λ named. let (listed, is_free) = and_parts (among (stage_nets l k) net) (free net) named in other (member-from_among net (stage_nets l k) listed) is_free)

  -- nor is it the item of a cell whose output isn't free to move
  pub of_stage-cell : (i : CellId) (c : Cell) → CellAt p.netlist i.0 c → free c.out.0 ≡ false → (item : Item) → of_stage item ≡ true → item ≢ Fire i
  of_stage-cell i c at fixed item picked e =
      let named : (among (stage_nets l k) c.out.0 && free c.out.0) ≡ true = sym (ap (passes_at (λ x. among (stage_nets l k) x && free x)) at) ∙ subst (λ x. of_stage x ≡ true) e picked in
      both_ways (free c.out.0) fixed (and_parts (among (stage_nets l k) c.out.0) (free c.out.0) named).1

  pub picks-cell : (i : CellId) (c : Cell) → CellAt p.netlist i.0 c → Member c.out.0 (stage_nets l k) → free c.out.0 ≡ true → of_stage (Fire i) ≡ true
  picks-cell i c at m is_free = ap (passes_at (λ x. among (stage_nets l k) x && free x)) at ∙ and_from _ _ (among-from_member c.out.0 m) is_free
