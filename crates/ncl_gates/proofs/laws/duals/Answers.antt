use Rattle.ncl_gates.proofs.DualLaws.{dual-set}
use Rattle.ncl_gates.proofs.laws.duals.Goals as goal

pub returns : goal.returns
returns c = dual-set
