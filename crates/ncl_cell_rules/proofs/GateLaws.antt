-- The graph of the gate cells has the paths of the gate cells.
use Rattle.ncl_cell_rules.proofs.Terms.{Ack, AreDrivers, Cell, CellAt, CellKind, Contains, Contains-filter_map, Contains-filter_map_of, Contains-from_slice_get, Drives, Gate, IsGate, IsNetlist, Leads, Leads-push, LeadsTo, List, NetId, NetlistData, Option, ReadsNet, Register, RegisterData, Some, [], ap, arc, arcs, arcs_of, arith, driver_at, further, gate_graph, get_or-map, get_or_from_slice_get, more, one, refl, slice_get_within, subst, successors, sym, ℕ, ◌∙◌, ◌≡◌}
use Rattle.ncl_cell_rules.proofs.Drivers.{same_place}
use Rattle.ncl_cell_rules.proofs.OriginLaws.{place_of}
use Rattle.ncl_cell_rules.proofs.GateRanks.{LeadsTo-push}

no_arcs : (j : ℕ) → Contains [] j → ⊥
no_arcs j (k, lt, at) = omega arith

-- an arc leads from a gate cell to what drives one of its pins
pub arcs_read : (drivers : List (Option ℕ)) (kind : CellKind) (ins : List NetId) (j : ℕ) → Contains (arcs_of drivers kind ins) j → ((g : _) × (kind ≡ Gate g)) × ((net : NetId) × Contains ins net × (driver_at drivers net.0 ≡ Some j))
arcs_read drivers (Gate g) ins j found = ((g, refl), Contains-filter_map (λ (net : NetId). driver_at drivers net.0) ins j found)
arcs_read drivers Register ins j found = absurd (no_arcs j found)
arcs_read drivers RegisterData ins j found = absurd (no_arcs j found)
arcs_read drivers Ack ins j found = absurd (no_arcs j found)

arcs_of_reads : (drivers : List (Option ℕ)) (kind : CellKind) (ins : List NetId) (j : ℕ) (net : NetId) → (g : _) × (kind ≡ Gate g) → Contains ins net → driver_at drivers net.0 ≡ Some j → Contains (arcs_of drivers kind ins) j
arcs_of_reads drivers kind ins j net (g, is) reads drives =
    subst (λ k. Contains (arcs_of drivers k ins) j) (sym is) (Contains-filter_map_of (λ (net : NetId). driver_at drivers net.0) ins net j reads drives)

module _ (n : NetlistData) (is : IsNetlist n) (drivers : List (Option ℕ)) (are : AreDrivers n drivers) where
  abbrev graph : List (List ℕ)
  graph = gate_graph n drivers

  arcs_at : (i : ℕ) (c : Cell) → CellAt n i c → successors graph i ≡ arcs drivers c
  arcs_at i c at = get_or-map (arcs drivers) n.cells i c [] (slice_get_within n.cells i c at) ∙ ap (arcs drivers) (get_or_from_slice_get n.cells i c c at)

  -- an arc leads from a gate cell to the cell that drives one of its pins
  pub arc_reads : (i j : ℕ) (c : Cell) → CellAt n i c → Contains (successors graph i) j → IsGate c × ((d : Cell) × CellAt n j d × ReadsNet c d.out.0)
  arc_reads i j c at found =
      let (is_gate, (net, reads, driven)) = arcs_read drivers c.kind c.ins.items j (subst (λ l. Contains l j) (arcs_at i c at) found) in
      let (d, at_d, out) = are.drives net.0 j driven in
      (is_gate, (d, at_d, subst (ReadsNet c) (sym out) reads))

  -- and each of these has an arc
  pub arc_of_reads : (i j : ℕ) (c d : Cell) → CellAt n i c → CellAt n j d → IsGate c → ReadsNet c d.out.0 → Contains (successors graph i) j
  arc_of_reads i j c d at_c at_d is_gate reads =
      subst (λ l. Contains l j) (sym (arcs_at i c at_c))
      (arcs_of_reads drivers c.kind c.ins.items j (record { 0 = d.out.0 }) is_gate reads (are.driven d.out.0 j (d, at_d, refl)))

  -- a path of the graph is a path of gate cells the other way round
  pub LeadsTo-from_Leads : (i j : ℕ) (c : Cell) → CellAt n i c → Leads graph i j → IsGate c × ((d : Cell) × CellAt n j d × LeadsTo n d.out.0 c.out.0)
  LeadsTo-from_Leads i j c at (arc a) =
      let (is_gate, (d, at_d, reads)) = arc_reads i j c at a in
      (is_gate, (d, at_d, one c (Contains-from_slice_get n.cells i c at) is_gate reads))
  LeadsTo-from_Leads i j c at (further {j = k} a path) =
      let (is_gate, (b, at_b, reads)) = arc_reads i k c at a in
      let (_, (d, at_d, leads)) = LeadsTo-from_Leads k j b at_b path in
      (is_gate, (d, at_d, LeadsTo-push n d.out.0 b.out.0 leads c (Contains-from_slice_get n.cells i c at) is_gate reads))

  -- and the other way
  pub Leads-from_LeadsTo : (x y : ℕ) → LeadsTo n x y → (i j : ℕ) → Drives n i y → Drives n j x → Leads graph i j
  Leads-from_LeadsTo x y (one b in_b is_gate reads) i j (c, at_c, out_c) (d, at_d, out_d) =
      let (k, at_b) = place_of n b in_b in
      let same : i ≡ k = same_place n is i k c b at_c at_b out_c in
      arc (subst (λ z. Contains (successors graph z) j) (sym same) (arc_of_reads k j b d at_b at_d is_gate (subst (ReadsNet b) (sym out_d) reads)))
  Leads-from_LeadsTo x y (more b in_b is_gate reads path) i j driven_y (d, at_d, out_d) =
      let (k, at_b) = place_of n b in_b in
      Leads-push graph j (Leads-from_LeadsTo b.out.0 y path i k driven_y (b, at_b, refl))
      (arc_of_reads k j b d at_b at_d is_gate (subst (ReadsNet b) (sym out_d) reads))
