use Rattle.ncl_template.proofs.Terms.{joint_pin, map, take, ◌≡◌}
use Rattle.ncl_template.proofs.joint.Beside.is_set.Given as goal

abbrev pub invariant-loop-pin : goal.invariant-loop-pin
invariant-loop-pin l = l.values.items ≡ map (joint_pin l.self.last.now.zero l.self.last.now.one l.word l.null) (take l.pin-index l.self.gate.now.pins.items)
