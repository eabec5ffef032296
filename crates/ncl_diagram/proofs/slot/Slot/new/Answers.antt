use Rattle.ncl_diagram.proofs.Packing.{made}
use Rattle.ncl_diagram.proofs.slot.Slot.new.Goals as goal

pub invariant_of-result : goal.invariant_of-result
invariant_of-result c = (made c.args.kind c.args.key c.args.found c.first_of.result c.below_answer.result c.requires c.first_of.ensures c.below_answer.ensures).0

pub returns : goal.returns
returns c = (made c.args.kind c.args.key c.args.found c.first_of.result c.below_answer.result c.requires c.first_of.ensures c.below_answer.ensures).1
