-- Which ends of a check have the statuses 0 and 1.
use Rattle.std.proofs.Common.{◌≡◌, refl, arith}
use Rattle.ncl_check.specs.declared.reply.Outcome.{Outcome}
use Rattle.ncl_check.specs.declared.reply.Outcome.TheVariants.{Accepted, Refused, NoPipeline, Unjudged}
use Rattle.ncl_reply.specs.Status.{status_of}

-- only an acceptance has status 0
pub accepted_by_status : (outcome : Outcome) → status_of outcome ≡ 0 → outcome ≡ Accepted
accepted_by_status Accepted e = refl
accepted_by_status Refused e = absurd (omega arith)
accepted_by_status NoPipeline e = absurd (omega arith)
accepted_by_status Unjudged e = absurd (omega arith)

-- only a refusal has status 1
pub refused_by_status : (outcome : Outcome) → status_of outcome ≡ 1 → outcome ≡ Refused
refused_by_status Accepted e = absurd (omega arith)
refused_by_status Refused e = refl
refused_by_status NoPipeline e = absurd (omega arith)
refused_by_status Unjudged e = absurd (omega arith)
