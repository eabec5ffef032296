use Rattle.ncl_match.proofs.Terms.{IfOk-at_ok, QuestionData, RunAnswers, arith, ℕ, ◌+◌, ◌-◌, ◌/◌, ◌≤◌}
use Rattle.ncl_match.proofs.halves.+calls.Goals as goal

pub returns : goal.returns
returns g t c =
    let q : QuestionData = g.Q.Ask.question c.args.asked.now in
    let middle : ℕ = c.args.low + (c.args.high - c.args.low) / 2 in
    let first_le : c.args.low ≤ middle = omega arith in
    let second_le : middle ≤ c.args.high = omega (arith, c.requires.in_order) in
    c.joined.ensures q.circuit q.models q.limit c.args.low middle c.args.high first_le second_le
    (IfOk-at_ok (RunAnswers q c.args.low middle) c.in_ok-first.was c.join-first.ensures.first)
    (IfOk-at_ok (RunAnswers q middle c.args.high) c.in_ok-second.was c.join-first.ensures.second)
