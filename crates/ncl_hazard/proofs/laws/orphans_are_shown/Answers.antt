use Rattle.ncl_hazard.proofs.ShownRuns.{explained_of}
use Rattle.ncl_hazard.proofs.laws.orphans_are_shown.Goals as goal

pub returns : goal.returns
returns c = λ p shape null order ord before s at sounds place g at_g word wide showing. (explained_of p shape null order ord before s at sounds place g at_g word wide showing).3
