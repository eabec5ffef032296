use Rattle.ncl_template.proofs.Terms.{arith, behind_bit, cases_lt, false, get_or, inl, inr, length, subst, true, ◌≡◌}
use Rattle.ncl_template.proofs.form.Behind.observes.Goals as goal

pub loop-low-preserved : goal.loop-low-preserved
loop-low-preserved c = λ j lt high.
    elim (cases_lt j c.loop-low.low) [
      | inl before ↦ c.loop-low.invariant j before high
      | inr past ↦
          subst (λ n. get_or c.args.high.now n false ≡ true → behind_bit c.args.self.now.word.now (length c.args.self.now.word.now) n c.args.self.now.inner.now c.args.self.now.gate.now ≡ false) (let same : c.loop-low.low ≡ j = omega (arith, lt, past) in same) (c.observes_at.ensures c.if-not-observes_at.false) high
    ]
