use Rattle.ncl_rails.proofs.Terms.{HasBits, arith, cases_lt, inl, inr, length, one_shl, subst, ◌≡◌}
use Rattle.ncl_rails.proofs.Holding.{some_number}
use Rattle.ncl_rails.proofs.held.Claim.is_true.Goals as goal

pub loop-number-preserved : goal.loop-number-preserved
loop-number-preserved c = λ n lt value has.
    elim (cases_lt n c.loop-number.number) [
      | inl before ↦ c.loop-number.invariant n before value has
      | inr past ↦
          let same : n ≡ c.loop-number.number = omega (arith, lt, past) in
          c.one_waits.ensures c.if-not-one_waits.false value (subst (HasBits value c.args.self.now.sources.now) same has)
    ]

pub returns : goal.returns
returns c = λ yes value.
    let sources = c.args.self.now.sources.now in
    let (number, below, has) = some_number value sources in
    c.loop-number.invariant number (omega (arith, below, one_shl (length sources) 32 (omega arith))) value has
