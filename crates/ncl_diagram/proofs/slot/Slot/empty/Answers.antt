use Rattle.ncl_diagram.proofs.Terms.{ap, first_word, second_word}
use Rattle.ncl_diagram.proofs.Packing.{none_at_zero}
use Rattle.ncl_diagram.proofs.slot.Slot.empty.Goals as goal

pub invariant_of-result : goal.invariant_of-result
invariant_of-result c = (ap first_word none_at_zero, ap second_word none_at_zero)

pub returns : goal.returns
returns c = none_at_zero
