use Rattle.std.proofs.Common.{sym, ◌∙◌}
use Rattle.ncl_verdict.proofs.Split.{second-answers, first-answers}
use Rattle.ncl_verdict.proofs.parallel.with_later.Goals as goal

pub returns-in-Accepted : goal.returns-in-Accepted
returns-in-Accepted c = λ limit front back is said. second-answers limit front back (sym is ∙ c.in-Accepted.is) c.args.later said

pub returns-in_default : goal.returns-in_default
returns-in_default c = λ limit front back is said. first-answers limit front back c.args.first c.in_default.not-Accepted is
