use Rattle.ncl_template.proofs.Terms.{All, IsFormPin, take}
use Rattle.ncl_template.proofs.fitting.are_pins.Given as goal

abbrev pub invariant-loop-pin : goal.invariant-loop-pin
invariant-loop-pin l = All (IsFormPin l.inputs l.inner) (take l.pin-index l.pins)
