use Rattle.ncl_verdict.proofs.SameJudgement.{same_judgement}
use Rattle.ncl_verdict.proofs.laws.same_pipeline_same_judgement.Goals as goal

pub returns : goal.returns
returns c = same_judgement
