use Rattle.ncl_insensitivity.proofs.RunLaws.{IsRunFrom-prefix, IsRunFrom-suffix, after-append, reset}
use Rattle.ncl_insensitivity.proofs.laws.run_prefix.Goals as goal

pub returns-clause-prefix : goal.returns-clause-prefix
returns-clause-prefix c = λ p offered. IsRunFrom-prefix p (reset p offered)

pub returns-clause-rest : goal.returns-clause-rest
returns-clause-rest c = λ p offered. IsRunFrom-suffix p (reset p offered)

pub returns-clause-state : goal.returns-clause-state
returns-clause-state c = after-append
