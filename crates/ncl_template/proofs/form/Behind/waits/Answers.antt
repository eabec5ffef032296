use Rattle.ncl_template.proofs.Terms.{arith, behind_bit, cases_lt, false, inl, inr, length, subst, true, waits_at, ◌≡◌}
use Rattle.ncl_template.proofs.form.Behind.waits.Goals as goal

pub loop-null-preserved : goal.loop-null-preserved
loop-null-preserved c = λ j lt waits.
    elim (cases_lt j c.loop-null.null) [
      | inl before ↦ c.loop-null.invariant j before waits
      | inr past ↦
          subst (λ n. waits_at c.args.waits c.args.self.now.word.now n ≡ true → behind_bit c.args.self.now.word.now n (length c.args.self.now.inner.now) c.args.self.now.inner.now c.args.self.now.gate.now ≡ false) (let same : c.loop-null.null ≡ j = omega (arith, lt, past) in same) (c.waits_for.ensures c.if-not-waits_for.false) waits
    ]
