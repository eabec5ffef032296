use Rattle.ncl_delay.proofs.Terms.{AllDigits, List, ap, arith, digit_value, digit_value_digit, digits_more, digits_value, digits_value-lt, digits_value_more, get_or, is_ascii_digit, length, length-take-le, list_all_more, pow-le-pow_right, sym, take, ℕ, ◌&&◌, ◌+◌, ◌<◌, ◌^◌, ◌∙◌, ◌≡◌, ◌≤◌}
use Rattle.ncl_delay.proofs.number.read_delay.Goals as goal

-- the value of at most six digits of a text
value_few : (field : List ℕ) (i : ℕ) → i < length field → length field ≤ 7 → AllDigits 10 (take i field) → digits_value 10 (take i field) < 1000000
value_few field i within few digits =
    let count : length (take i field) ≡ i = length-take-le i field (omega arith) in
    let within_few : i ≤ 6 = omega arith in
    let most : 10 ^ i ≤ 10 ^ 6 = pow-le-pow_right (omega arith) {j = 6} within_few in
    omega (arith, digits_value-lt 10 (take i field) digits, ap (λ n. 10 ^ n) count, most)

pub overflow_mul-value : goal.overflow_mul-value
overflow_mul-value c =
    let few = value_few c.args.field.now c.loop-byte.byte-index c.loop-byte-test.true (omega arith) c.loop-byte.invariant.1 in
    omega (arith, few, c.loop-byte.invariant.2)

pub overflow_add-value : goal.overflow_add-value
overflow_add-value c =
    let few = value_few c.args.field.now c.loop-byte.byte-index c.loop-byte-test.true (omega arith) c.loop-byte.invariant.1 in
    let digit = c.if-not-is_ascii_digit.ensures {u = tt} in
    omega (arith, few, c.loop-byte.invariant.2, digit.cases)

pub loop-byte-preserved : goal.loop-byte-preserved
loop-byte-preserved c =
    let field = c.args.field.now in
    let i = c.loop-byte.byte-index in
    let within = c.loop-byte-test.true in
    let digit = c.if-not-is_ascii_digit.ensures {u = tt} in
    let worth : digit_value (get_or field i 0) + 48 ≡ get_or field i 0 = digit_value_digit (get_or field i 0) digit.cases in (
      list_all_more is_ascii_digit field i 0 within ∙ ap (λ b. b && is_ascii_digit (get_or field i 0)) c.loop-byte.invariant.0 ∙ sym digit.value,
      digits_more 10 field i within c.loop-byte.invariant.1 digit.bound,
      omega (arith, c.loop-byte.invariant.2, digits_value_more 10 field i within, c.from.ensures, worth),
    )
