use Rattle.ncl_gates.proofs.GateLaws.{set_of-Th22, set_of-Th33, set_of-Th44}
use Rattle.ncl_gates.proofs.laws.conjunctions.Goals as goal

pub returns : goal.returns
returns c = record { two = set_of-Th22; three = set_of-Th33; four = set_of-Th44 }
