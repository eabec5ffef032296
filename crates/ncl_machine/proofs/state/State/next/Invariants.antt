use Rattle.ncl_machine.proofs.Terms.{NetId, map, net_values, take, ◌≡◌}
use Rattle.ncl_machine.proofs.state.State.next.Given as goal

abbrev pub invariant-loop-net : goal.invariant-loop-net
invariant-loop-net l = l.ins.items ≡ map (λ (net : NetId). net_values l.self.values net.0) (take l.net-index l.net-items)
