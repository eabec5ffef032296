use Rattle.ncl_gates.proofs.PinLaws.{pins_of-some, pins_of-few, pins_of-differ, pins_of-last}
use Rattle.ncl_gates.proofs.laws.pins.Goals as goal

pub returns : goal.returns
returns c = record { some = pins_of-some; few = pins_of-few; differ = pins_of-differ; last = pins_of-last }
