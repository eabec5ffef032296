use Rattle.ncl_verdict.proofs.Terms.{[], orphan_and_stage, ◌∷◌}
use Rattle.ncl_verdict.proofs.Computed.{judgement-computes}
use Rattle.ncl_verdict.proofs.examples.unobserved_cell.Goals as goal

pub returns : goal.returns
returns c = judgement-computes 100 (orphan_and_stage ∷ [])
