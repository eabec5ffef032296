use Rattle.ncl_verdict.proofs.Terms.{[], eager_and_stage, ◌∷◌}
use Rattle.ncl_verdict.proofs.Computed.{judgement-computes}
use Rattle.ncl_verdict.proofs.examples.eager_and.Goals as goal

pub returns : goal.returns
returns c = judgement-computes 100 (eager_and_stage ∷ [])
