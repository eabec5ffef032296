use Rattle.ncl_gates.proofs.GateLaws.{next_of-hysteresis}
use Rattle.ncl_gates.proofs.laws.hysteresis.Goals as goal

pub returns : goal.returns
returns c = next_of-hysteresis
