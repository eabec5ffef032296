-- The completion tree of a bank: the cells whose outputs come from the bank's acknowledge cells.
use Rattle.ncl_cell_roles.proofs.Terms.{AckOf, All-contains, All-filter, All-from_members, AllPairs, AllPairs-filter, Bank, Bool, Cell, ComesFrom, Contains-from_Member, Differ, FromPort, IsAck, IsCell, IsFree, IsGate, IsNetlist, List, Member, Member-filter, Member-from_Contains, NetlistData, Origin, PipelineData, RailOf, Shape, Some, ap, arith, both_ways, cases_lt, cell_fits, differ_of_map, driver_of_ack, eq-eqb, eqb-true, false, filter, filter_passes, gate, get_or, has_origin, inl, inr, length, map, nat_eq, net_of, one_origin, place_of, refl, same_driver, same_place, slice_get, slice_get-get_or, subst, true, ℕ, ◌<◌, ◌∙◌, ◌≡◌, ◌≢◌, ◌≤◌, ◌⊎◌}
use Rattle.ncl_cell_roles.proofs.Numbering.{root_is_one}

-- the outputs of the cells of a netlist differ
outputs_differ : (n : NetlistData) → IsNetlist n → Differ net_of n.cells
outputs_differ n is i j d before within e =
    let places : i ≡ j = same_place n is i j (get_or n.cells i d) (get_or n.cells j d) (slice_get-get_or n.cells i d (omega (arith, before, within))) (slice_get-get_or n.cells j d within) e in
    omega (arith, before, places)

module _ (n : NetlistData) (is : IsNetlist n) (free : IsFree n) (bank : ℕ) where
  -- the origin is the bank's acknowledge cells
  abbrev is_its : Origin → Bool
  is_its FromPort = false
  is_its (RailOf other) = false
  is_its (AckOf other) = nat_eq other bank

  its-is : (origin : Origin) → is_its origin ≡ true → origin ≡ AckOf bank
  its-is FromPort passes = absurd (both_ways false refl passes)
  its-is (RailOf other) passes = absurd (both_ways false refl passes)
  its-is (AckOf other) passes = ap AckOf (eqb-true other bank passes)

  -- and so is that of the net, which has one if it is of the netlist
  comes_from_acks : (net : ℕ) → (net < length n.nets) ⊎ (length n.nets ≤ net) → Bool
  comes_from_acks net (inl lt) = is_its (has_origin n is free net lt).0
  comes_from_acks net (inr past) = false

  comes-from_test : (net : ℕ) (where_it_is : (net < length n.nets) ⊎ (length n.nets ≤ net)) → comes_from_acks net where_it_is ≡ true → ComesFrom n net (AckOf bank)
  unfolding comes_from_acks
  comes-from_test net (inl lt) passes = let (origin, from) = has_origin n is free net lt in subst (ComesFrom n net) (its-is origin passes) from
  comes-from_test net (inr past) passes = absurd (both_ways false refl passes)

  comes-passes : (net : ℕ) (where_it_is : (net < length n.nets) ⊎ (length n.nets ≤ net)) → net < length n.nets → ComesFrom n net (AckOf bank) → comes_from_acks net where_it_is ≡ true
  unfolding comes_from_acks
  comes-passes net (inl lt) within from =
      let (origin, own) = has_origin n is free net lt in
      ap is_its (one_origin n is free net origin (AckOf bank) own from) ∙ eq-eqb bank bank refl
  comes-passes net (inr past) within from = absurd (omega (arith, past, within))

  is_of_tree : Cell → Bool
  is_of_tree c = comes_from_acks c.out.0 (cases_lt c.out.0 (length n.nets))

  -- the cells of the tree
  pub tree_of : List Cell
  tree_of = filter is_of_tree n.cells

  -- each is a cell whose output comes from the bank's acknowledge cells, and each such cell is there
  pub tree_of-acks : (c : Cell) → Member c tree_of → IsCell n c × ComesFrom n c.out.0 (AckOf bank)
  unfolding is_of_tree tree_of
  tree_of-acks c m =
      let cells = All-filter is_of_tree (IsCell n) n.cells (All-from_members (IsCell n) n.cells (λ c m. Contains-from_Member c m)) in
      let passes : is_of_tree c ≡ true = All-contains (λ c. is_of_tree c ≡ true) tree_of c (filter_passes is_of_tree n.cells) (Contains-from_Member c m) in
      (All-contains (IsCell n) tree_of c cells (Contains-from_Member c m), comes-from_test c.out.0 (cases_lt c.out.0 (length n.nets)) passes)

  pub tree_of-has : (c : Cell) → IsCell n c → ComesFrom n c.out.0 (AckOf bank) → Member c tree_of
  unfolding is_of_tree tree_of
  tree_of-has c in_c from = Member-filter is_of_tree c (Member-from_Contains n.cells c in_c) (comes-passes c.out.0 (cases_lt c.out.0 (length n.nets)) (cell_fits n is c in_c).output from)

  -- their outputs differ
  pub tree_of-differ : AllPairs (λ x y. x ≢ y) (map net_of tree_of)
  unfolding tree_of
  tree_of-differ = differ_of_map net_of tree_of (AllPairs-filter (λ (c d : Cell). net_of c ≢ net_of d) is_of_tree n.cells (outputs_differ n is))

-- the output of a cell of the tree is the bank's root, or a completion cell of the tree reads it
pub root_or_read : (p : PipelineData) (shape : Shape p.netlist p) (k : ℕ) (b : Bank) (c : Cell) → slice_get p.banks k ≡ Some b → IsCell p.netlist c → ComesFrom p.netlist c.out.0 (AckOf b.request.0)
    → (c.out.0 ≡ b.root.0) ⊎ ((d : Cell) × IsCell p.netlist d × IsGate d × Member c.out d.ins.items × ComesFrom p.netlist d.out.0 (AckOf b.request.0))
root_or_read p shape k b c at in_c from =
    let (i, at_c) = place_of p.netlist c in_c in
    let (d, in_d, out, sort) = driver_of_ack p.netlist c.out.0 (AckOf b.request.0) b.request.0 refl from in
    let own : IsAck c ⊎ IsGate c = subst (λ (z : Cell). IsAck z ⊎ IsGate z) (same_driver p.netlist shape.is_netlist d c in_d in_c out) sort in
    elim (shape.free.tied i c at_c b.request.0 own from) [
      | inl (e, in_e, is_gate, reads) ↦ inr (e, in_e, is_gate, Member-from_Contains e.ins.items c.out reads, gate e in_e is_gate reads from)
      | inr used ↦ inl (root_is_one p shape k b at c.out.0 (record { acks = from; used = used }))
    ]
