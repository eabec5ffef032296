use Rattle.ncl_gates.proofs.GateLaws.{set_of-Th12, set_of-Th13, set_of-Th14}
use Rattle.ncl_gates.proofs.laws.disjunctions.Goals as goal

pub returns : goal.returns
returns c = record { two = set_of-Th12; three = set_of-Th13; four = set_of-Th14 }
