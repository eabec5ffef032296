-- Each net is of one stage or of one completion tree: what it comes from tells which.
use Rattle.ncl_cell_roles.proofs.Terms.{AckOf, Bank, Cell, ComesFrom, FromPort, IsCell, IsInputPort, List, Member, None, Option, Origin, PipelineData, RailOf, Shape, Some, [], ap, append-nil, arith, cases_lt, inl, inr, length, map, member_cases, member_of_map, net_of, nets_of, one_origin, origin_within, port, rail_nets, refl, slice_get, slice_get-some, slice_get_past, subst, suc, sym, zero, ℕ, ◌<◌, ◌∷◌, ◌≡◌, ◌≤◌}
use Rattle.ncl_cell_roles.proofs.Numbering.{stage_at, banks_apart}
use Rattle.ncl_cell_roles.proofs.EndLaws.{input_is_port, ki_is_port, ki_is_no_input}
use Rattle.ncl_cell_roles.proofs.BetweenBanks.{stage_origin}
use Rattle.ncl_cell_roles.proofs.BankTrees.{tree_of, tree_of-acks, tree_of-has}

-- the nets of stage k
abbrev pub nets_at : PipelineData → ℕ → List ℕ
nets_at p k = nets_of (stage_at p k).inputs (stage_at p k).cells

module _ (p : PipelineData) (shape : Shape p.netlist p) where
  -- the cells and nets of the tree of a bank; where there is no bank stands the sink
  abbrev pub cells_of : Option Bank → List Cell
  cells_of None = []
  cells_of (Some b) = tree_of p.netlist shape.is_netlist shape.free b.request.0

  abbrev pub tree_nets_of : Option Bank → List ℕ
  tree_nets_of None = p.ki ∷ []
  tree_nets_of (Some b) = map net_of (tree_of p.netlist shape.is_netlist shape.free b.request.0)

  abbrev pub tree_at : ℕ → List Cell
  tree_at k = cells_of (slice_get p.banks k)

  abbrev pub tree_nets_at : ℕ → List ℕ
  tree_nets_at k = tree_nets_of (slice_get p.banks k)

  pub tree-acks : (k : ℕ) (b : Bank) → slice_get p.banks k ≡ Some b → (c : Cell) → Member c (tree_at k) → IsCell p.netlist c × ComesFrom p.netlist c.out.0 (AckOf b.request.0)
  tree-acks k b at c m = tree_of-acks p.netlist shape.is_netlist shape.free b.request.0 c (subst (λ o. Member c (cells_of o)) at m)

  pub tree-has : (k : ℕ) (b : Bank) → slice_get p.banks k ≡ Some b → (c : Cell) → IsCell p.netlist c → ComesFrom p.netlist c.out.0 (AckOf b.request.0) → Member c (tree_at k)
  tree-has k b at c in_c from = subst (λ o. Member c (cells_of o)) (sym at) (tree_of-has p.netlist shape.is_netlist shape.free b.request.0 c in_c from)

  -- what the nets of a stage come from: the inputs from ports, those of another from the rails of the bank
  data IsStageOrigin : ℕ → Origin → Type 0 where
    from_source : IsStageOrigin 0 FromPort
    from_bank : (k : ℕ) (b : Bank) → slice_get p.banks k ≡ Some b → IsStageOrigin (suc k) (RailOf b.request.0)

  -- what the nets of a tree come from: the bank's acknowledge cells, and the sink's acknowledge from a port
  data IsTreeOrigin : ℕ → Origin → Type 0 where
    from_acks : (k : ℕ) (b : Bank) → slice_get p.banks k ≡ Some b → IsTreeOrigin k (AckOf b.request.0)
    from_sink : (k : ℕ) → length p.banks ≡ k → IsTreeOrigin k FromPort

  source_net : (net : ℕ) → Member net (nets_at p 0) → Member net (rail_nets p.inputs)
  source_net net m = subst (Member net) (append-nil (rail_nets p.inputs)) m

  sink_net : (k net : ℕ) → length p.banks ≤ k → Member net (tree_nets_at k) → net ≡ p.ki
  sink_net k net past m =
      elim (member_cases net p.ki [] (subst (λ o. Member net (tree_nets_of o)) (slice_get_past p.banks k past) m)) [
        | inl same ↦ sym same
        | inr none ↦ elim none [ ]
      ]

  stage_comes : (k net : ℕ) → k ≤ length p.banks → Member net (nets_at p k) → (origin : Origin) × IsStageOrigin k origin × ComesFrom p.netlist net origin
  stage_comes zero net le m = (FromPort, from_source, port (input_is_port p shape net (source_net net m)).0)
  stage_comes (suc k) net le m =
      let (b, at) = slice_get-some p.banks k (omega (arith, le)) in
      (RailOf b.request.0, from_bank k b at, stage_origin p shape k net b at m)

  tree_comes : (k net : ℕ) → k ≤ length p.banks → Member net (tree_nets_at k) → (origin : Origin) × IsTreeOrigin k origin × ComesFrom p.netlist net origin
  tree_comes k net le m =
      elim (cases_lt k (length p.banks)) [
        | inl lt ↦
            let (b, at) = slice_get-some p.banks k lt in
            let (c, n, out) = member_of_map net_of (tree_of p.netlist shape.is_netlist shape.free b.request.0) net (subst (λ o. Member net (tree_nets_of o)) at m) in
            let from = (tree_of-acks p.netlist shape.is_netlist shape.free b.request.0 c n).1 in
            (AckOf b.request.0, from_acks k b at, subst (λ x. ComesFrom p.netlist x (AckOf b.request.0)) out from)
        | inr past ↦ (FromPort, from_sink k (omega (arith, le, past)), port (subst (IsInputPort p.netlist) (sym (sink_net k net past m)) (ki_is_port p shape)))
      ]

  -- the number of a stage or a tree is told by that origin
  stage_is_one : (j k : ℕ) (x y : Origin) → IsStageOrigin j x → IsStageOrigin k y → x ≡ y → j ≡ k
  stage_is_one j k x y from_source from_source e = refl
  stage_is_one j k x y from_source (from_bank i b at) e = absurd cc
  stage_is_one j k x y (from_bank i b at) from_source e = absurd cc
  stage_is_one j k x y (from_bank i b at) (from_bank l d at_d) e = let same : b.request.0 ≡ d.request.0 = cc in ap suc (banks_apart p shape i l b d at at_d same)

  tree_is_one : (j k : ℕ) (x y : Origin) → IsTreeOrigin j x → IsTreeOrigin k y → x ≡ y → j ≡ k
  tree_is_one j k x y (from_acks i b at) (from_acks l d at_d) e = let same : b.request.0 ≡ d.request.0 = cc in banks_apart p shape i l b d at at_d same
  tree_is_one j k x y (from_acks i b at) (from_sink l end) e = absurd cc
  tree_is_one j k x y (from_sink i end) (from_acks l d at_d) e = absurd cc
  tree_is_one j k x y (from_sink i end_i) (from_sink l end_l) e = omega (arith, end_i, end_l)

  -- and an origin is of a stage or a tree, but for ports
  stage_or_tree : (j k : ℕ) (x y : Origin) → IsStageOrigin j x → IsTreeOrigin k y → x ≡ y → (j ≡ 0) × (length p.banks ≡ k)
  stage_or_tree j k x y from_source (from_acks l d at_d) e = absurd cc
  stage_or_tree j k x y from_source (from_sink l end) e = (refl, end)
  stage_or_tree j k x y (from_bank i b at) (from_acks l d at_d) e = absurd cc
  stage_or_tree j k x y (from_bank i b at) (from_sink l end) e = absurd cc

  -- so no two stages and no two trees have a net in common, and no stage has one with a tree
  pub stages_apart : (j k net : ℕ) → j ≤ length p.banks → k ≤ length p.banks → Member net (nets_at p j) → Member net (nets_at p k) → j ≡ k
  stages_apart j k net lj lk mj mk =
      let (x, is_x, from_x) = stage_comes j net lj mj in
      let (y, is_y, from_y) = stage_comes k net lk mk in
      stage_is_one j k x y is_x is_y (one_origin p.netlist shape.is_netlist shape.free net x y from_x from_y)

  pub trees_apart : (j k net : ℕ) → j ≤ length p.banks → k ≤ length p.banks → Member net (tree_nets_at j) → Member net (tree_nets_at k) → j ≡ k
  trees_apart j k net lj lk mj mk =
      let (x, is_x, from_x) = tree_comes j net lj mj in
      let (y, is_y, from_y) = tree_comes k net lk mk in
      tree_is_one j k x y is_x is_y (one_origin p.netlist shape.is_netlist shape.free net x y from_x from_y)

  pub stage_and_tree_apart : (j k net : ℕ) → j ≤ length p.banks → k ≤ length p.banks → Member net (nets_at p j) → Member net (tree_nets_at k) → ⊥
  stage_and_tree_apart j k net lj lk mj mk =
      let (x, is_x, from_x) = stage_comes j net lj mj in
      let (y, is_y, from_y) = tree_comes k net lk mk in
      let (first, end) = stage_or_tree j k x y is_x is_y (one_origin p.netlist shape.is_netlist shape.free net x y from_x from_y) in
      let input : Member net (rail_nets p.inputs) = source_net net (subst (λ i. Member net (nets_at p i)) first mj) in
      ki_is_no_input p shape (subst (λ x. Member x (rail_nets p.inputs)) (sink_net k net (omega (arith, end)) mk) input)

  -- all of them are nets of the netlist
  pub stage_within : (k net : ℕ) → k ≤ length p.banks → Member net (nets_at p k) → net < length p.netlist.nets
  stage_within k net le m = let (origin, is_its, from) = stage_comes k net le m in origin_within p.netlist shape.is_netlist net origin from

  pub tree_within : (k net : ℕ) → k ≤ length p.banks → Member net (tree_nets_at k) → net < length p.netlist.nets
  tree_within k net le m = let (origin, is_its, from) = tree_comes k net le m in origin_within p.netlist shape.is_netlist net origin from
