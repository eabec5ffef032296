-- What stands behind a stage: where only a cell of the stage itself can move, and then the bank after the stage can't take or
-- give up a rail, all of it stays as it is.
use Rattle.ncl_refusal.proofs.Terms.{Bool, Cell, CellAt, Fire, IsExcited, IsLayoutOf, Item, Layout, Lower, Member, NetId, Nets, None, Option, PipelineData, Rails, Raise, Ready, Some, StageCell, State, Take, TreePart, [], acks, and_from, ap, arith, both_ways, cases_eq, completes, differ, enabled, false, gate-listed, gate-next, here, in_bit, in_rail, inl, inputs-listed, inr, is_excited, list_all, list_all-map, map-same, nat_eq, ne_eqb, next_of, next_of_cell, next_of_gate, next_value, not, not-not, not_from_false, out-listed, out_of, out_rail, outputs-listed, pin_values, pin_values-same, rail-listed, refl, register-excited, root-listed, slice_get, slice_get-from_Contains, stage_nets, subst, suc, sym, there, tree-listed, true, width, ℕ, ◌<◌, ◌||◌, ◌∙◌, ◌∷◌, ◌≡◌, ◌≤◌}
use Rattle.ncl_refusal.proofs.Does.{later, MovesStage, by_gate, by_register, by_source, stage-moves, MovesTree, by_cell, by_take, by_ready, tree-moves}

-- tests that agree on each output
outputs-alike : (p : PipelineData) (f g : Rails → Bool) → ((r : Rails) → Member r p.outputs → f r ≡ g r) → list_all f p.outputs ≡ list_all g p.outputs
outputs-alike p f g same = sym (list_all-map (λ b. b) f p.outputs) ∙ ap (list_all (λ b. b)) (map-same f g p.outputs same) ∙ list_all-map (λ b. b) g p.outputs

-- the item is of a cell whose output passes a test, or it is another, and these count as said
abbrev pub passes_at : (ℕ → Bool) → Option Cell → Bool
passes_at test None = false
passes_at test (Some c) = test c.out.0

abbrev pub picks : PipelineData → (ℕ → Bool) → Bool → Item → Bool
picks p test rest (Fire i) = passes_at test (slice_get p.netlist.cells i.0)
picks p test rest (Raise b) = rest
picks p test rest (Lower b) = rest
picks p test rest Take = rest
picks p test rest Ready = rest

-- it is none of a cell that drives the net
abbrev pub avoids : PipelineData → ℕ → Item → Bool
avoids p net = picks p (λ x. not (nat_eq x net)) true

module _ {p : PipelineData} {l : Layout} (is : IsLayoutOf p l) (z : ℕ) (in_last : z < l.last) (t : State) (held : ℕ)
    (in_stage : Member held (stage_nets l z)) (quiet : (item : Item) → avoids p held item ≡ true → enabled p t item ≡ false) where
  -- all nets behind the stage are as in that state
  pub record IsBehind (u : Nets) : Type 0 where
    pub stages : (k net : ℕ) → z < k → k ≤ l.last → Member net (stage_nets l k) → u net ≡ t.value net
    pub trees : (k net : ℕ) → z ≤ k → k ≤ l.last → Member net (l.tree_nets k) → u net ≡ t.value net

  pub behind-itself : IsBehind t.value
  behind-itself = record { stages = λ k net past le m. refl; trees = λ k net past le m. refl }

  -- another cell isn't excited there
  pub cell_still : (i : ℕ) (d : Cell) → CellAt p.netlist i d → (d.out.0 ≡ held → ⊥) → differ (next_value t.value d) (t.value d.out.0) ≡ true → ⊥
  cell_still i d at_d apart excited =
      both_ways (enabled p t (Fire (record { 0 = i })))
      (quiet (Fire (record { 0 = i })) (ap (passes_at (λ x. not (nat_eq x held))) at_d ∙ ap not (ne_eqb d.out.0 held apart)))
      (ap (is_excited t.value) at_d ∙ excited)

  module _ (u : State) (behind : IsBehind u.value) (waits : (j : ℕ) (r : Bool) → j < width l (suc z) → u.value (out_rail l z j r) ≡ not (u.value (in_rail l (suc z) j r)) → u.value (l.root (suc z)) ≡ not (u.value (in_rail l (suc z) j r)) → ⊥)
      (item : Item) (can : enabled p u item ≡ true) where
    abbrev v : Nets
    v = u.value

    stages-kept : (k net : ℕ) → z < k → k ≤ l.last → Member net (stage_nets l k) → later is u item can net ≡ t.value net
    stages-kept k net past le m = elim (stage-moves is u item can k net le m) [
      | inl same ↦ same ∙ behind.stages k net past le m
      | inr moves ↦ absurd (by_move moves)
    ]
      where
        own_net : held ≡ net → ⊥
        own_net e = let same = is.stages_apart z k net (omega (arith, in_last)) le (subst (λ x. Member x (stage_nets l z)) e in_stage) m in omega (arith, same, past)

        gate_still : (g : StageCell) → Member g (l.stage k).cells → out_of g ≡ net → IsExcited v g → ⊥
        gate_still g in_k e excited =
            let (i, d, at_d, same) = is.gate_at k g le in_k in
            let pins : pin_values t.value g.ins.items ≡ pin_values v g.ins.items =
            pin_values-same t.value v g.ins.items (λ x r. sym (behind.stages k x.0 past le (inputs-listed (is.is_stage k le) g in_k x r))) in
            let out : t.value (out_of g) ≡ v (out_of g) = sym (behind.stages k (out_of g) past le (gate-listed (l.stage k) g in_k)) in
            cell_still i d at_d (λ q. own_net (sym q ∙ same.out ∙ e))
            (ap (λ x. differ x (t.value d.out.0)) (gate-next t.value d g same) ∙ ap (λ x. differ (next_of_gate t.value g) (t.value x)) same.out
            ∙ ap (λ x. differ (next_of g.kind x (t.value (out_of g))) (t.value (out_of g))) pins ∙ ap (λ b. differ (next_of g.kind (pin_values v g.ins.items) b) b) out ∙ excited)

        register_still : (i j : ℕ) (r : Bool) → z < i → i < l.last → j < width l (suc i) → in_rail l (suc i) j r ≡ net → v (out_rail l i j r) ≡ not (v net) → v (l.root (suc i)) ≡ not (v net) → ⊥
        register_still i j r far li lj e a_is b_is =
            let (place, d, at_d, on) = is.register_at i j r li lj in
            let net_same : v net ≡ t.value net = behind.stages k net past le m in
            let a_now : t.value (out_rail l i j r) ≡ not (t.value net) = sym (behind.stages i (out_rail l i j r) far (omega (arith, li)) (out-listed is i j r li lj)) ∙ a_is ∙ ap not net_same in
            let b_now : t.value (l.root (suc i)) ≡ not (t.value net) = sym (behind.trees (suc i) (l.root (suc i)) (omega (arith, far)) li (root-listed is (suc i) li)) ∙ b_is ∙ ap not net_same in
            let z_now : t.value (in_rail l (suc i) j r) ≡ not (not (t.value net)) = ap t.value e ∙ sym (not-not (t.value net)) in
            cell_still place d at_d (λ q. own_net (sym q ∙ on.out ∙ e)) (register-excited t.value d (out_rail l i j r) (l.root (suc i)) (in_rail l (suc i) j r) on (not (t.value net)) a_now b_now z_now)

        by_move : MovesStage is u item can k net → ⊥
        by_move (by_gate g in_k e excited is_next) = gate_still g in_k e excited
        by_move (by_register i j r one li lj e a_is b_is is_next) = elim (cases_eq i z) [
          | inl same ↦ at_bank i j r same lj e a_is b_is
          | inr apart ↦ register_still i j r (omega (arith, apart, one, past)) li lj e a_is b_is
        ]
          where
            at_bank : (i j : ℕ) (r : Bool) → i ≡ z → j < width l (suc i) → in_rail l (suc i) j r ≡ net → v (out_rail l i j r) ≡ not (v net) → v (l.root (suc i)) ≡ not (v net) → ⊥
            at_bank i j r same lj e a_is b_is =
                waits j r (subst (λ x. j < width l (suc x)) same lj)
                (subst (λ x. v (out_rail l x j r) ≡ not (v (in_rail l (suc x) j r))) same (a_is ∙ ap (λ x. not (v x)) (sym e)))
                (subst (λ x. v (l.root (suc x)) ≡ not (v (in_rail l (suc x) j r))) same (b_is ∙ ap (λ x. not (v x)) (sym e)))
        by_move (by_source b zero_is which_at which) = omega (arith, zero_is, past)

    trees-kept : (k net : ℕ) → z ≤ k → k ≤ l.last → Member net (l.tree_nets k) → later is u item can net ≡ t.value net
    trees-kept k net past le m = elim (tree-moves is u item can k net le m) [
      | inl same ↦ same ∙ behind.trees k net past le m
      | inr moves ↦ absurd (by_move moves)
    ]
      where
        outputs_same : (r : Rails) → Member r p.outputs → (t.value r.zero.0 || t.value r.one.0) ≡ (v r.zero.0 || v r.one.0)
        outputs_same r in_p =
            let listed = outputs-listed (is.is_stage l.last (omega arith)) r (subst (λ bits. Member r bits) (sym is.sink) in_p) in
            ap (λ b. b || t.value r.one.0) (sym (behind.stages l.last r.zero.0 in_last (omega arith) listed.0)) ∙ ap (λ b. v r.zero.0 || b) (sym (behind.stages l.last r.one.0 in_last (omega arith) listed.1))

        ki_same : p.ki ≡ net → t.value p.ki ≡ v net
        ki_same e = ap t.value e ∙ sym (behind.trees k net past le m)

        tree_still : (d : Cell) → k < l.last → Member d (l.tree k) → d.out.0 ≡ net → differ (next_value v d) (v net) ≡ true → ⊥
        tree_still d lk in_k e excited =
            let (i, at_d) = slice_get-from_Contains p.netlist.cells d (is.tree_cell k d lk in_k).0 in
            let pins : pin_values t.value d.ins.items ≡ pin_values v d.ins.items = pin_values-same t.value v d.ins.items (λ x r. sym (read (is.tree_cell k d lk in_k).1 x r)) in
            let out : t.value d.out.0 ≡ v d.out.0 = sym (behind.trees k d.out.0 past le (tree-listed is k d lk in_k)) in
            cell_still i d at_d (λ q. is.apart z k held (omega (arith, in_last)) le in_stage (subst (λ x. Member x (l.tree_nets k)) q (tree-listed is k d lk in_k)))
            (ap (λ x. differ (next_of_cell d.kind x (t.value d.out.0)) (t.value d.out.0)) pins ∙ ap (λ b. differ (next_of_cell d.kind (pin_values v d.ins.items) b) b) out
            ∙ ap (λ x. differ (next_value v d) (v x)) e ∙ excited)
          where
            rail_read : (b : ℕ) → b < width l (suc k) → (x : NetId) → Member x ((in_bit l (suc k) b).zero ∷ (in_bit l (suc k) b).one ∷ []) → v x.0 ≡ t.value x.0
            rail_read b within x here = behind.stages (suc k) (in_rail l (suc k) b false) (omega (arith, past)) lk (rail-listed (l.stage (suc k)) b false within)
            rail_read b within x (there here) = behind.stages (suc k) (in_rail l (suc k) b true) (omega (arith, past)) lk (rail-listed (l.stage (suc k)) b true within)
            rail_read b within x (there (there r)) = elim r [ ]

            read : TreePart l k d → (x : NetId) → Member x d.ins.items → v x.0 ≡ t.value x.0
            read (acks b within on) x r = rail_read b within x (subst (λ ins. Member x ins) on.ins r)
            read (completes kind is_gate is_tree arity inputs) x r =
                let (y, in_y, out, rank) = inputs x r in
                subst (λ (q : NetId). v q.0 ≡ t.value q.0) out (behind.trees k y.out.0 past le (tree-listed is k y lk in_y))

        by_move : MovesTree is u item can k net → ⊥
        by_move (by_cell d lk in_k e excited is_next) = tree_still d lk in_k e excited
        by_move (by_take last e all up is_next) =
            both_ways (enabled p t Take) (quiet Take refl) (and_from _ _ (ki_same e ∙ up) (outputs-alike p (λ r. t.value r.zero.0 || t.value r.one.0) (λ r. v r.zero.0 || v r.one.0) outputs_same ∙ all))
        by_move (by_ready last e all low is_next) =
            both_ways (enabled p t Ready) (quiet Ready refl) (and_from _ _ (not_from_false _ (ki_same e ∙ low)) (outputs-alike p (λ r. not (t.value r.zero.0 || t.value r.one.0)) (λ r. not (v r.zero.0 || v r.one.0)) (λ r m. ap not (outputs_same r m)) ∙ all))

    pub behind-kept : IsBehind (later is u item can)
    behind-kept = record { stages = stages-kept; trees = trees-kept }
