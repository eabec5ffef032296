use Rattle.std.proofs.Common.{sym, ◌∙◌}
use Rattle.ncl_verdict.proofs.Sound.{judgement-sound}
use Rattle.runs.specs.declared.merging.TheConstants.{NODES}
use Rattle.runs.proofs.merging.are_accepted.Goals as goal

pub returns-in-Accepted : goal.returns-in-Accepted
returns-in-Accepted c = λ accepted. judgement-sound NODES c.args.pipeline.now.stages (sym c.in_ok-judge.ensures ∙ c.in-Accepted.is)
