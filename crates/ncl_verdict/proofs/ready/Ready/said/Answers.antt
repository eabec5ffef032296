use Rattle.ncl_verdict.proofs.Terms.{IfOk, IfOk-weaker, ReadyData, Some, StageData, of_stage, stopped_at, subst, ◌∙◌, ◌≡◌}
use Rattle.ncl_verdict.proofs.InSpaceLaws.{of_stage-said}
use Rattle.ncl_verdict.proofs.ready.Ready.said.Goals as goal

pub returns : goal.returns
returns c =
    let s : StageData = c.self.inside.stage.now in
    let limit = c.self.inside.limit in
    subst (λ (r : ReadyData). IfOk c.after_base.result (λ answer. answer ≡ of_stage (stopped_at r.limit) r.stage)) c.self.view_is
    (IfOk-weaker c.after_base.result _ (λ answer. answer ≡ of_stage (stopped_at limit) s)
    (λ answer is. is ∙ of_stage-said s _ (Some limit) c.self.invariant.same_limit c.self.invariant.nothing)
    c.after_base.ensures)
