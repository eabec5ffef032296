use Rattle.ncl_cell_rules.proofs.Terms.{NetId, driver_at, filter_map, take, ◌≡◌}
use Rattle.ncl_cell_rules.proofs.gate_graph.drivers_of.Given as goal

abbrev pub invariant-loop-net : goal.invariant-loop-net
invariant-loop-net l = l.places.items ≡ filter_map (λ (net : NetId). driver_at l.drivers net.0) (take l.net-index l.nets)
