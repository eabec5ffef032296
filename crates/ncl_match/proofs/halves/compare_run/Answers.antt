use Rattle.ncl_match.proofs.Terms.{QuestionData, RunAnswers, arith, refl, subst, ◌+◌, ◌≡◌}
use Rattle.ncl_match.proofs.halves.compare_run.Goals as goal

pub loop-output-preserved : goal.loop-output-preserved
loop-output-preserved g c =
    let q : QuestionData = g.Q.Ask.question c.args.asked.now in
    c.joined-told.ensures q.circuit q.models q.limit c.args.low c.loop-output.output (c.loop-output.output + 1) c.loop-output.auto.output (omega arith) c.loop-output.invariant
    (c.run_of.ensures q.circuit q.models q.limit c.loop-output.output refl c.in_ok-answer.ensures)

pub returns : goal.returns
returns g c =
    let q : QuestionData = g.Q.Ask.question c.args.asked.now in
    let most = c.loop-output.auto.output-end c.requires.in_order in
    let all : c.loop-output.output ≡ c.args.high = omega (arith, most, c.loop-output-test.false) in
    subst (λ n. RunAnswers q c.args.low n c.loop-output.told) all c.loop-output.invariant
