use Rattle.ncl_template.proofs.Terms.{WaitsJointly, arith, at_each_first, below_more, subst, take, waits_once, word_of}
use Rattle.ncl_template.proofs.joint.Beside.waits_always.Goals as goal

pub loop-number-preserved : goal.loop-number-preserved
loop-number-preserved c =
    let P = WaitsJointly c.args.self.now.last.now.zero c.args.self.now.last.now.one (waits_once c.args.self.now.waits) c.args.self.now.gate.now in
    below_more (λ n. P (take 3 (word_of 4 n))) c.loop-number.number c.loop-number.invariant (subst (λ word. P (take 3 word)) c.word_of.ensures (c.waits_at.ensures c.if-not-waits_at.false))

pub returns : goal.returns
returns c = λ yes.
    at_each_first 3 4 (WaitsJointly c.args.self.now.last.now.zero c.args.self.now.last.now.one (waits_once c.args.self.now.waits) c.args.self.now.gate.now) (omega arith) (λ n below. c.loop-number.invariant n (omega (arith, below)))
