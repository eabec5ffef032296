use Rattle.ncl_verdict.proofs.Terms.{[], straight_stage, swapped_stage, ◌∷◌}
use Rattle.ncl_verdict.proofs.Computed.{judgement-computes}
use Rattle.ncl_verdict.proofs.examples.words_in_two_orders.Goals as goal

pub returns-clause-swapped : goal.returns-clause-swapped
returns-clause-swapped c = judgement-computes 100 (swapped_stage ∷ [])

pub returns-clause-straight : goal.returns-clause-straight
returns-clause-straight c = judgement-computes 100 (straight_stage ∷ [])
