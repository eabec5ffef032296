use Rattle.ncl_verdict.proofs.Terms.{[], adder_stage, sum_stage, ◌∷◌}
use Rattle.ncl_verdict.proofs.Computed.{judgement-computes}
use Rattle.ncl_verdict.proofs.examples.full_adder.Goals as goal

pub returns-clause-whole : goal.returns-clause-whole
returns-clause-whole c = judgement-computes 100 (adder_stage ∷ [])

pub returns-clause-sum_alone : goal.returns-clause-sum_alone
returns-clause-sum_alone c = judgement-computes 100 (sum_stage ∷ [])
