-- The gate cells are a graph, whose arcs lead to places of cells.
use Rattle.ncl_cell_rules.proofs.Terms.{All, All-from_members, All-map, AreDrivers, Contains-from_Member, IsGraph, List, NetlistData, Option, arcs, arith, gate_graph, get_or, length, length-map, slice_get_within, ℕ, ◌<◌, ◌≡◌}
use Rattle.ncl_cell_rules.proofs.GateLaws.{arcs_read}

pub IsGraph-gate_graph : (n : NetlistData) (drivers : List (Option ℕ)) → AreDrivers n drivers → IsGraph (gate_graph n drivers)
IsGraph-gate_graph n drivers are =
    let as_many : length (gate_graph n drivers) ≡ length n.cells = length-map n.cells (arcs drivers) in
    let few = are.netlist.few_cells in
    record {
      few = omega (arith, as_many, few);
      closed = All-map (All (λ j. j < length (gate_graph n drivers))) (arcs drivers) n.cells (λ k d within.
          All-from_members (λ j. j < length (gate_graph n drivers)) (arcs drivers (get_or n.cells k d)) (λ j m.
          let (is_gate, (net, reads, driven)) = arcs_read drivers (get_or n.cells k d).kind (get_or n.cells k d).ins.items j (Contains-from_Member j m) in
          let (c, at, out) = are.drives net.0 j driven in
          let inside = slice_get_within n.cells j c at in
          omega (arith, inside, as_many)));
    }
