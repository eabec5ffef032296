use Rattle.ncl_hazard.proofs.OrphanPlaces.{judged-orphan}
use Rattle.ncl_hazard.proofs.laws.judged_orphans.Goals as goal

pub returns : goal.returns
returns c = judged-orphan
