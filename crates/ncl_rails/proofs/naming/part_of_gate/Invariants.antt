use Rattle.ncl_rails.proofs.Terms.{NetId, map, name_of_net, pair_names, take, ◌≡◌}
use Rattle.ncl_rails.proofs.naming.part_of_gate.Given as goal

abbrev pub invariant-loop-net : goal.invariant-loop-net
invariant-loop-net l = l.pins.items ≡ map (λ (net : NetId). name_of_net (pair_names l.ins) l.prefix net.0) (take l.net-index l.net-items)
