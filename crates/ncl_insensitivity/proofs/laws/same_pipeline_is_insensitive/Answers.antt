use Rattle.ncl_insensitivity.proofs.SamePipelineLaws.{same_is_insensitive}
use Rattle.ncl_insensitivity.proofs.laws.same_pipeline_is_insensitive.Goals as goal

pub returns : goal.returns
returns c = same_is_insensitive
