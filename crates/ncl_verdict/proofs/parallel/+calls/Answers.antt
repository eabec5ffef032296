use Rattle.ncl_verdict.proofs.Terms.{Answers, IfOk, IfOk-at_ok, subst, take-append-drop, ◌++◌, ◌∙◌}
use Rattle.ncl_verdict.proofs.parallel.+calls.Goals as goal

pub returns-in-Some : goal.returns-in-Some
returns-in-Some g t c =
    let front = c.split_at.result.0.now in
    let back = c.split_at.result.1.now in
    let limit = c.limit-limit.result in
    let whole = (λ i. c.split_at.ensures.front i ++ c.split_at.ensures.back i) ∙ take-append-drop _ c.stages-stages.result.now ∙ c.stages-stages.ensures.stages in
    subst (λ n. IfOk c.with_later.result (Answers n c.args.run.now.stages)) c.limit-limit.ensures
    (subst (λ stages. IfOk c.with_later.result (Answers limit stages)) whole
    (c.with_later.ensures limit front back (subst (Answers limit front) c.in-Some.is (IfOk-at_ok (Answers limit front) c.in_ok-verdict.was c.join-first.ensures.first)) c.join-first.ensures.second))
