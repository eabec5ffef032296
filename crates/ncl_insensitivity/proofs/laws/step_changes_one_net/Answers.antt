use Rattle.ncl_insensitivity.proofs.StepLaws.{changes_one_net}
use Rattle.ncl_insensitivity.proofs.laws.step_changes_one_net.Goals as goal

pub returns : goal.returns
returns c = changes_one_net
