use Rattle.ncl_sim.proofs.HazardRange.{hazard_in_range}
use Rattle.ncl_sim.proofs.laws.hazard_is_in_range.Goals as goal

pub returns : goal.returns
returns c = hazard_in_range
