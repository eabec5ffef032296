use Rattle.ncl_reader.proofs.Bits.{◌≡◌, ◌-◌, ◌<◌, length, take, drop, drop-cons, get_or, sym, ap, ◌∙◌, subst, arith, take_rest, length-drop, slice_index, AllDigits, digits_value, digit_at, digits-drop, value-zeros}
use Rattle.ncl_reader.proofs.number.without_zeros.Goals as goal
use Rattle.ncl_reader.proofs.number.without_zeros.Goals.{then-loop-zeros-test+else-digits-zeros-eq48, else-loop-zeros-test}

pub returns-clause-value : goal.returns-clause-value
returns-clause-value c =
    ap (digits_value 10) (take_rest c.args.digits.now c.loop-zeros.zeros)
    ∙ value-zeros c.args.digits.now c.loop-zeros.zeros c.loop-zeros.invariant.0 c.loop-zeros.invariant.1

pub returns-clause-digits : goal.returns-clause-digits
returns-clause-digits c = subst (AllDigits 10) (sym (take_rest c.args.digits.now c.loop-zeros.zeros)) (digits-drop c.args.digits.now c.loop-zeros.zeros c.requires)

pub returns-clause-first : goal.returns-clause-first
returns-clause-first c =
    let digits = c.args.digits.now in
    let n = c.loop-zeros.zeros in
    let rest : take (length digits - n) (drop n digits) ≡ drop n digits = take_rest digits n in
    subst (λ l. 0 < length l → 48 < slice_index l 0) (sym rest) (elim c.loop-zeros-test.branch [
      | then-loop-zeros-test+else-digits-zeros-eq48 w ↦ λ some.
          let is = digit_at digits n c.requires w.loop-zeros-test.true in
          let more : 48 < get_or digits n 0 = omega (arith, is.low, w.if-digits-zeros-eq48.false) in
          subst (λ l. 48 < slice_index l 0) (sym (drop-cons digits n 0 w.loop-zeros-test.true)) more
      | else-loop-zeros-test w ↦ λ some. absurd (omega (arith, some, length-drop n digits, w.loop-zeros-test.false))
    ])
