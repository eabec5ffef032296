use Rattle.ncl_faults.proofs.ValueLaws.{val-outputs}
use Rattle.ncl_stage.proofs.laws.outputs_are_set.Goals as goal

pub returns : goal.returns
returns c = λ s word variant is. val-outputs s is word variant
