-- Numbers that decimal digits say.
use Rattle.ncl_command.proofs.Terms.{IsNumeralModel, List, Ok, ParsesUnsigned, Result, and_parts, ap, arith, digits_value, digits_value_short, is_ascii_digit, is_number, leb-true, length, list_all, nat_le, number_said, numerals_by_value, parse_gives, result_ok, rules, true, ℕ, ◌&&◌, ◌≡◌, ◌≤◌}

-- digits are what the parser of numbers takes for digits
own : IsNumeralModel (λ ds. list_all is_ascii_digit ds ≡ true) (digits_value 10)
own = numerals_by_value _ (search rules)

-- up to nine digits are parsed to the number that they say
pub parsed : {E : Type 0} (text : List ℕ) (r : Result ℕ E) → ParsesUnsigned 32 10 text r → list_all is_ascii_digit text ≡ true → 1 ≤ length text → length text ≤ 9 → r ≡ Ok (digits_value 10 text)
parsed text r h digits some few = parse_gives own 32 text r h digits (omega arith) (omega (arith, digits_value_short own text 9 digits few))

-- the number of a text that is one
pub number_is : {E : Type 0} (most : ℕ) (text : List ℕ) (r : Result ℕ E) → ParsesUnsigned 32 10 text r → most ≤ 9 → is_number most text ≡ true → result_ok r ≡ number_said most text
number_is most text r h few number =
    let some = and_parts (nat_le 1 (length text)) (nat_le (length text) most && list_all is_ascii_digit text) number in
    let rest = and_parts (nat_le (length text) most) (list_all is_ascii_digit text) some.1 in
    let short : length text ≤ most = leb-true _ _ rest.0 in
    rw number (ap result_ok (parsed text r h rest.1 (leb-true _ _ some.0) (omega arith)))
