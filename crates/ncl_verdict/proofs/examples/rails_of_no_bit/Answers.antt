use Rattle.ncl_verdict.proofs.Terms.{[], crossed_stage, dead_rail_stage, ◌∷◌}
use Rattle.ncl_verdict.proofs.Computed.{judgement-computes}
use Rattle.ncl_verdict.proofs.examples.rails_of_no_bit.Goals as goal

pub returns-clause-crossed : goal.returns-clause-crossed
returns-clause-crossed c = judgement-computes 100 (crossed_stage ∷ [])

pub returns-clause-dead : goal.returns-clause-dead
returns-clause-dead c = judgement-computes 100 (dead_rail_stage ∷ [])
