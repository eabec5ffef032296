use Rattle.std.proofs.Common.{◌≡◌, take}
use Rattle.ncl_template.proofs.gate.pins.Given as goal

abbrev pub invariant-loop-net : goal.invariant-loop-net
invariant-loop-net l = l.pins.items ≡ take l.net-index l.nets
