use Rattle.ncl_verdict.proofs.Terms.{Base, IfOk-weaker, IsReady, MatchResult, None, Some, SpaceData, StageData, at_variant, of_stage, stopped_within, subst, ◌∙◌, ◌≡◌}
use Rattle.ncl_verdict.proofs.InSpaceLaws.{of_stage-said}
use Rattle.ncl_verdict.proofs.in_space.first_answer.Goals as goal

pub returns-in-Ok : goal.returns-in-Ok
returns-in-Ok g c =
    let s : StageData = c.args.stage.now in
    let old : SpaceData = g.P.Space.meaning c.args.space.now in
    let new : SpaceData = g.P.Space.meaning c.under_base.new.space in
    let said = subst (λ r. MatchResult r (λ base. (at_variant (stopped_within old.limit) s Base ≡ None) × IsReady new s base) (λ v. at_variant (stopped_within old.limit) s Base ≡ Some v)) c.in-Ok.is c.in_ok-base.ensures.answer in
    IfOk-weaker c.after_base.result _ (λ answer. answer ≡ of_stage (stopped_within old.limit) s)
    (λ answer is. is ∙ of_stage-said s new.limit old.limit c.under_base.ensures.kept.limit said.0)
    c.after_base.ensures
