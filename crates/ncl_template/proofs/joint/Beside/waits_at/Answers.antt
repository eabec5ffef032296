use Rattle.ncl_template.proofs.Terms.{arith, cases_lt, false, inl, inr, joint_bit, subst, true, waits_once, ◌≡◌}
use Rattle.ncl_template.proofs.joint.Beside.waits_at.Goals as goal

pub loop-null-preserved : goal.loop-null-preserved
loop-null-preserved c = λ j lt waits.
    elim (cases_lt j c.loop-null.null) [
      | inl before ↦ c.loop-null.invariant j before waits
      | inr past ↦
          subst (λ n. waits_once c.args.self.now.waits n ≡ true → joint_bit c.args.self.now.last.now.zero c.args.self.now.last.now.one c.args.word.now n c.args.self.now.gate.now ≡ false) (let same : c.loop-null.null ≡ j = omega (arith, lt, past) in same) (c.waits_for.ensures c.if-not-waits_for.false) waits
    ]
