use Rattle.std.proofs.Common.{sym, ◌∙◌}
use Rattle.ncl_verdict.proofs.Split.{accepted-more, refused-at}
use Rattle.ncl_verdict.proofs.parallel.judge_each.Goals as goal

pub returns-in_default : goal.returns-in_default
returns-in_default g c =
    c.in_ok-verdict.ensures
    ∙ refused-at c.args.limit c.args.stages.now c.loop-stage.stage-index c.stage-item.result c.loop-stage-test.true c.stage-item.is c.loop-stage.invariant
    (λ e. c.in_default.not-Accepted (c.in_ok-verdict.ensures ∙ e))

pub loop-stage-preserved : goal.loop-stage-preserved
loop-stage-preserved g c =
    accepted-more c.args.limit c.args.stages.now c.loop-stage.stage-index c.stage-item.result c.loop-stage-test.true c.stage-item.is c.loop-stage.invariant
    (sym c.in_ok-verdict.ensures ∙ c.in-Accepted.is)
