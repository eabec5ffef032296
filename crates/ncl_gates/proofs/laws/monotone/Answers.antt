use Rattle.ncl_gates.proofs.GateLaws.{set_of-monotone}
use Rattle.ncl_gates.proofs.laws.monotone.Goals as goal

pub returns : goal.returns
returns c = set_of-monotone
