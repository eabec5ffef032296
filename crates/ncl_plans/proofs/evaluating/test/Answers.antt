use Rattle.ncl_plans.proofs.Terms.{ComputesAt, arith, below_more, subst, word_of}
use Rattle.ncl_plans.proofs.Cones.{Computes-all}
use Rattle.ncl_plans.proofs.evaluating.test.Goals as goal

pub loop-number-preserved : goal.loop-number-preserved
loop-number-preserved c =
    let P = ComputesAt c.args.nodes.now c.args.place c.args.choice.now.leaves c.args.choice.now.plan in
    below_more (λ n. P (word_of 4 n)) c.loop-number.number c.loop-number.invariant (subst P c.word_of.ensures c.in_ok-test_word.ensures)

pub returns : goal.returns
returns c = Computes-all c.args.nodes.now c.args.place c.args.choice.now.leaves c.args.choice.now.plan (λ n below. c.loop-number.invariant n (omega (arith, below)))
