use Rattle.ncl_refusal.proofs.Exact.{exactly-held, sound-bounded}
use Rattle.ncl_refusal.proofs.laws.exact_with_held.Goals as goal

pub returns-clause-exact : goal.returns-clause-exact
returns-clause-exact c = exactly-held

pub returns-clause-bound : goal.returns-clause-bound
returns-clause-bound c = sound-bounded
