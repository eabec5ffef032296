use Rattle.ncl_verdict.proofs.Terms.{judgement, sym, ◌∙◌}
use Rattle.ncl_verdict.proofs.Split.{accepted-all, accepted-more, refused-at}
use Rattle.ncl_verdict.proofs.parallel.judge_run.Goals as goal

pub returns-in_default : goal.returns-in_default
returns-in_default g c =
    c.in_ok-verdict.ensures
    ∙ refused-at c.limit-limit.result c.stages-stages.result.now c.loop-number.number c.index-stages-number.result c.loop-number-test.true c.index-stages-number.is c.loop-number.invariant
    (λ e. c.in_default.not-Accepted (c.in_ok-verdict.ensures ∙ e))
    ∙ (λ i. judgement (c.limit-limit.ensures i) (c.stages-stages.ensures.stages i))

pub loop-number-preserved : goal.loop-number-preserved
loop-number-preserved g c =
    accepted-more c.limit-limit.result c.stages-stages.result.now c.loop-number.number c.index-stages-number.result c.loop-number-test.true c.index-stages-number.is c.loop-number.invariant
    (sym c.in_ok-verdict.ensures ∙ c.in-Accepted.is)

pub returns : goal.returns
returns g c =
    sym (accepted-all c.limit-limit.result c.stages-stages.result.now c.loop-number.number c.loop-number-test.false c.loop-number.invariant)
    ∙ (λ i. judgement (c.limit-limit.ensures i) (c.stages-stages.ensures.stages i))
