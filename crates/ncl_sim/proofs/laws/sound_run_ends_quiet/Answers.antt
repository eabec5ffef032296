use Rattle.ncl_sim.proofs.Quiet.{sound-delivers, sound-ends_quiet}
use Rattle.ncl_sim.proofs.laws.sound_run_ends_quiet.Goals as goal

pub returns-clause-quiet : goal.returns-clause-quiet
returns-clause-quiet c = sound-ends_quiet

pub returns-clause-delivered : goal.returns-clause-delivered
returns-clause-delivered c = sound-delivers
