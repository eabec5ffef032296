use Rattle.ncl_gates.proofs.GateLaws.{set_of-low, set_of-high}
use Rattle.ncl_gates.proofs.laws.extremes.Goals as goal

pub returns-clause-low : goal.returns-clause-low
returns-clause-low c = set_of-low

pub returns-clause-high : goal.returns-clause-high
returns-clause-high c = set_of-high
