use Rattle.ncl_template.proofs.Terms.{map, pin_net, take, ◌≡◌}
use Rattle.ncl_template.proofs.eager.add_gate.Given as goal

abbrev pub invariant-loop-pin : goal.invariant-loop-pin
invariant-loop-pin l = l.nets.items ≡ map (pin_net l.ins l.inner) (take l.pin-index l.gate.pins.items)
