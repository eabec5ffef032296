use Rattle.ncl_verdict.proofs.Terms.{Base, MatchResult, ReadyData, Some, StageData, at_variant, of_stage, stopped_at, subst, sym, ◌∙◌, ◌≡◌}
use Rattle.ncl_verdict.proofs.judging.begun.Goals as goal

pub returns-then-branch : goal.returns-then-branch
returns-then-branch c =
    let s : StageData = c.args.stage.now in
    let same = subst (λ r. MatchResult r (λ (ready : ReadyData). (ready.stage ≡ s) × (ready.limit ≡ c.args.limit)) (λ said. at_variant (stopped_at c.args.limit) s Base ≡ Some said)) c.in-Ok.is c.in_ok-ready.ensures in
    sym (c.in_ok-is_accepted.ensures.accepted c.if-branch.true) ∙ (λ i. of_stage (stopped_at (same.1 i)) (same.0 i))
