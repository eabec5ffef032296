use Rattle.ncl_reader.proofs.Bits.{arith, digits_more, digit_at}
use Rattle.ncl_reader.proofs.bit.are_digits.Goals as goal

pub returns-then-not-is_ascii_digit : goal.returns-then-not-is_ascii_digit
returns-then-not-is_ascii_digit c = (
  λ e. absurd cc,
  λ all.
      let is = digit_at c.args.bytes.now c.loop-byte.byte-index all c.loop-byte-test.true in
      let digit = c.if-not-is_ascii_digit.ensures {u = tt} in
      absurd (omega (arith, is.low, is.high, digit.cases)),
)

pub loop-byte-preserved : goal.loop-byte-preserved
loop-byte-preserved c = let digit = c.if-not-is_ascii_digit.ensures {u = tt} in digits_more 10 c.args.bytes.now c.loop-byte.byte-index c.loop-byte-test.true c.loop-byte.invariant digit.bound
