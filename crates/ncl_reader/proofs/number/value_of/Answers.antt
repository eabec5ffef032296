use Rattle.ncl_reader.proofs.Bits.{arith, digits_value_more, digit_at, value_few}
use Rattle.ncl_reader.proofs.number.value_of.Goals as goal

pub overflow_mul-value : goal.overflow_mul-value
overflow_mul-value c =
    let few = value_few c.args.digits.now c.loop-digit.digit-index c.loop-digit-test.true c.requires.few c.requires.digits in
    omega (arith, few, c.loop-digit.invariant)

pub overflow_sub-digit : goal.overflow_sub-digit
overflow_sub-digit c = (digit_at c.args.digits.now c.loop-digit.digit-index c.requires.digits c.loop-digit-test.true).low

pub overflow_add-value : goal.overflow_add-value
overflow_add-value c =
    let few = value_few c.args.digits.now c.loop-digit.digit-index c.loop-digit-test.true c.requires.few c.requires.digits in
    let is = digit_at c.args.digits.now c.loop-digit.digit-index c.requires.digits c.loop-digit-test.true in
    omega (arith, few, c.loop-digit.invariant, c.from.ensures, is.high)

pub loop-digit-preserved : goal.loop-digit-preserved
loop-digit-preserved c =
    let is = digit_at c.args.digits.now c.loop-digit.digit-index c.requires.digits c.loop-digit-test.true in
    omega (arith, c.loop-digit.invariant, digits_value_more 10 c.args.digits.now c.loop-digit.digit-index c.loop-digit-test.true, c.from.ensures, is.worth)
