use Rattle.ncl_sim.proofs.Existence.{one_run, some_run}
use Rattle.ncl_sim.proofs.laws.one_timed_run.Goals as goal

pub returns-clause-some : goal.returns-clause-some
returns-clause-some c = some_run

pub returns-clause-one : goal.returns-clause-one
returns-clause-one c = one_run
