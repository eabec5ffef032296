use Rattle.ncl_stage.proofs.SupportLaws.{values_told}
use Rattle.ncl_stage.proofs.laws.supports_tell_values.Goals as goal

pub returns : goal.returns
returns c = values_told
