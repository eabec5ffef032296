use Rattle.ncl_verdict.proofs.Terms.{Base, [], and_stage, count-computes, ◌∷◌}
use Rattle.ncl_verdict.proofs.Computed.{judgement-computes}
use Rattle.ncl_verdict.proofs.examples.and_of_two_bits.Goals as goal

pub returns-clause-count : goal.returns-clause-count
returns-clause-count c = count-computes and_stage Base

pub returns-clause-accepted : goal.returns-clause-accepted
returns-clause-accepted c = judgement-computes 6 (and_stage ∷ [])

pub returns-clause-limited : goal.returns-clause-limited
returns-clause-limited c = judgement-computes 5 (and_stage ∷ [])
