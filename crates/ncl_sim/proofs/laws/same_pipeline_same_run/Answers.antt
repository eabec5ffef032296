use Rattle.ncl_sim.proofs.SameRuns.{same_runs}
use Rattle.ncl_sim.proofs.laws.same_pipeline_same_run.Goals as goal

pub returns : goal.returns
returns c = same_runs
