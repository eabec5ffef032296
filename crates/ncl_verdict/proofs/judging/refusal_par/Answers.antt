use Rattle.ncl_verdict.proofs.Terms.{IfOk-weaker, MatchResult, ReadyData, StageData, of_stage, stopped_at, subst, ◌∙◌, ◌≡◌}
use Rattle.ncl_verdict.proofs.judging.refusal_par.Goals as goal

pub returns-in-Ok : goal.returns-in-Ok
returns-in-Ok g c =
    let s : StageData = c.args.stage.now in
    let same = subst (λ r. MatchResult r (λ (ready : ReadyData). (ready.stage ≡ s) × (ready.limit ≡ c.args.limit)) (λ said. said ≡ of_stage (stopped_at c.args.limit) s)) c.in-Ok.is c.in_ok-ready.ensures in
    IfOk-weaker c.said_par.result _ (λ answer. answer ≡ of_stage (stopped_at c.args.limit) s)
    (λ answer is. is ∙ (λ i. of_stage (stopped_at (same.1 i)) (same.0 i)))
    c.said_par.ensures
