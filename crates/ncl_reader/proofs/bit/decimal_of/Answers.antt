use Rattle.ncl_reader.proofs.Bits.{◌≡◌, ◌≢◌, ℕ, ◌<◌, ◌≤◌, ◌⊎◌, inl, inr, List, length, Option, Some, None, sym, ◌∙◌, subst, arith, MatchOption, decimal, slice_index, AllDigits, digits_value, false≢true, cases_lt, IsTooLarge, decimal-digits, no_leading, not_large, is_decimal}
use Rattle.ncl_reader.proofs.bit.decimal_of.Goals as goal

pub returns-then-not-are_digits : goal.returns-then-not-are_digits
returns-then-not-are_digits c = λ k small is. false≢true (sym c.if-not-are_digits.true ∙ c.are_digits.ensures.1 (subst (AllDigits 10) (sym is) (decimal-digits k small)))

pub returns-then-has_leading_zero : goal.returns-then-has_leading_zero
returns-then-has_leading_zero c = λ k small is. no_leading k c.args.digits.now small is (c.has_leading_zero.ensures.0 c.if-has_leading_zero.true)

-- a number that is told is written so
by_number : (digits : List ℕ) (found : Option ℕ) → AllDigits 10 digits → ((0 < length digits → (slice_index digits 0 ≡ 48) × (1 < length digits)) → ⊥) → MatchOption found (IsTooLarge digits) (λ n. (n ≡ digits_value 10 digits) × ¬ IsTooLarge digits) → MatchOption found ((k : ℕ) → k < 65536 → digits ≢ decimal k) (λ k. digits ≡ decimal k)
by_number digits None all fine large = λ k small is. not_large k digits small is large
by_number digits (Some n) all fine (is, small) = is_decimal digits n all fine is (few (cases_lt 65535 (digits_value 10 digits)))
  where
    few : (65535 < digits_value 10 digits) ⊎ (digits_value 10 digits ≤ 65535) → n < 65536
    few (inl much) = absurd (small (inr much))
    few (inr less) = omega (arith, is, less)

pub returns : goal.returns
returns c = by_number c.args.digits.now c.small_value.result (c.are_digits.ensures.0 c.if-not-are_digits.false) (λ leading. false≢true (sym c.if-has_leading_zero.false ∙ c.has_leading_zero.ensures.1 leading)) c.small_value.ensures
