-- The status that a check ends with.
use Rattle.std.specs.Prelude.{ℕ}
use Rattle.ncl_check.specs.declared.reply.Outcome.{Outcome}
use Rattle.ncl_check.specs.declared.reply.Outcome.TheVariants.{Accepted, Refused, NoPipeline, Unjudged}

-- the status of a check that ends so
abbrev pub status_of : Outcome → ℕ
status_of Accepted = 0
status_of Refused = 1
status_of NoPipeline = 3
status_of Unjudged = 6
