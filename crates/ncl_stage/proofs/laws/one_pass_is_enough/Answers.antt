use Rattle.ncl_faults.proofs.OnePass.{pass-val}
use Rattle.ncl_stage.proofs.laws.one_pass_is_enough.Goals as goal

pub returns : goal.returns
returns c = λ s word variant net is. pass-val s is word variant net
