-- The names of a compiled netlist are plain words: a letter, a digit, and letters, digits and `_`.
use Rattle.ncl_compile.proofs.Terms.{Bool, EndModule, Input, IsPartName, IsPlain, LeftOut, List, Module, None, Output, Some, Wire, [], and_from, and_parts, ap, arith, begins_word, both_ways, bytes_decides, bytes_eq, codes, continues_word, decimal, decimal_by_steps, false, inl, inner_pair, inr, is_digit, is_letter, is_name_byte, is_none, is_plain, keyword_of, le-leb, left_out, length, length-append, list_all, list_any, nat_le, not, numbered, or_cases, or_left, or_right, port_pair, refl, root_name, subst, suc, sym, three_digits, true, word_of, zero, ℕ, ◌%◌, ◌++◌, ◌+◌, ◌/◌, ◌<◌, ◌==◌, ◌^◌, ◌||◌, ◌∙◌, ◌∷◌, ◌≡◌}
use Rattle.std.specs.Prelude.{if◌then◌else◌}
use Rattle.ncl_compile.proofs.NameLaws.{name_at}

-- whether the second byte of a word is a digit
abbrev second_digit : List ℕ → Bool
second_digit [] = false
second_digit (a ∷ []) = false
second_digit (a ∷ b ∷ rest) = is_digit b

-- no reserved word has a digit there
other_word : (a b : ℕ) (rest word : List ℕ) → is_digit b ≡ true → second_digit word ≡ false → bytes_eq (a ∷ b ∷ rest) word ≡ false
other_word a b rest word digit none = by (bytes_eq (a ∷ b ∷ rest) word) refl
  where
    by : (e : Bool) → bytes_eq (a ∷ b ∷ rest) word ≡ e → bytes_eq (a ∷ b ∷ rest) word ≡ false
    by true same = absurd (both_ways (is_digit b) (ap second_digit ((bytes_decides (a ∷ b ∷ rest) word).0 same) ∙ none) digit)
    by false other = other

other_words : (a b : ℕ) (rest : List ℕ) (words : List (List ℕ)) → is_digit b ≡ true → list_all (λ word. not (second_digit word)) words ≡ true → list_any (bytes_eq (a ∷ b ∷ rest)) words ≡ false
other_words a b rest [] digit none = refl
other_words a b rest (word ∷ words) digit none =
    let (first, more) = and_parts (not (second_digit word)) (list_all (λ word. not (second_digit word)) words) none in
    (λ i. other_word a b rest word digit (not_true (second_digit word) first) i || list_any (bytes_eq (a ∷ b ∷ rest)) words) ∙ other_words a b rest words digit more
  where
    not_true : (e : Bool) → not e ≡ true → e ≡ false
    not_true true is = absurd (both_ways false refl is)
    not_true false is = refl

unreserved : (a b : ℕ) (rest : List ℕ) → is_digit b ≡ true → keyword_of (a ∷ b ∷ rest) ≡ None
unreserved a b rest digit =
    let other : (word : List ℕ) → second_digit word ≡ false → bytes_eq (a ∷ b ∷ rest) word ≡ false = λ word. other_word a b rest word digit in
    by (bytes_eq (a ∷ b ∷ rest) (codes "module")) (bytes_eq (a ∷ b ∷ rest) (codes "endmodule")) (bytes_eq (a ∷ b ∷ rest) (codes "input")) (bytes_eq (a ∷ b ∷ rest) (codes "output")) (bytes_eq (a ∷ b ∷ rest) (codes "wire")) (list_any (bytes_eq (a ∷ b ∷ rest)) left_out)
    (other (codes "module") refl) (other (codes "endmodule") refl) (other (codes "input") refl) (other (codes "output") refl) (other (codes "wire") refl) (other_words a b rest left_out digit refl)
  where
    by : (m e i o w l : Bool) → m ≡ false → e ≡ false → i ≡ false → o ≡ false → w ≡ false → l ≡ false
        → (if m then Some Module else (if e then Some EndModule else (if i then Some (word_of Input) else (if o then Some (word_of Output) else (if w then Some Wire else (if l then Some LeftOut else None)))))) ≡ None
    by m e i o w l a b c d f g = rw (a, b, c, d, f, g) refl

-- a letter, a digit, and bytes with which a word goes on
word_plain : (a b : ℕ) (rest : List ℕ) → is_letter a ≡ true → is_digit b ≡ true → list_all continues_word rest ≡ true → is_plain (a ∷ b ∷ rest) ≡ true
word_plain a b rest letter digit more =
    and_from (begins_word a) _ (or_left (is_letter a) (a == 95) letter)
    (and_from (list_all continues_word (b ∷ rest)) _ (and_from (continues_word b) (list_all continues_word rest) (digit_continues b digit) more) (ap is_none (unreserved a b rest digit)))
  where
    digit_continues : (b : ℕ) → is_digit b ≡ true → continues_word b ≡ true
    digit_continues b is = or_right (begins_word b) (is_digit b || b == 36) (or_left (is_digit b) (b == 36) is)

continues-append : (xs ys : List ℕ) → list_all continues_word xs ≡ true → list_all continues_word ys ≡ true → list_all continues_word (xs ++ ys) ≡ true
continues-append [] ys of_x of_y = of_y
continues-append (x ∷ xs) ys of_x of_y =
    let (first, more) = and_parts (continues_word x) (list_all continues_word xs) of_x in
    and_from (continues_word x) (list_all continues_word (xs ++ ys)) first (continues-append xs ys more of_y)

digits_continue : (xs : List ℕ) → list_all is_digit xs ≡ true → list_all continues_word xs ≡ true
digits_continue [] digits = refl
digits_continue (x ∷ xs) digits =
    let (first, more) = and_parts (is_digit x) (list_all is_digit xs) digits in
    and_from (continues_word x) (list_all continues_word xs) (or_right (begins_word x) (is_digit x || x == 36) (or_left (is_digit x) (x == 36) first)) (digits_continue xs more)

digit_of : (value : ℕ) → value < 10 → is_digit (48 + value) ≡ true
digit_of value below = and_from (nat_le 48 (48 + value)) (nat_le (48 + value) 57) (le-leb 48 (48 + value) (omega arith)) (le-leb (48 + value) 57 (omega arith))

three-digits : (number : ℕ) → list_all is_digit (three_digits number) ≡ true
three-digits number =
    and_from (is_digit (48 + number / 100 % 10)) _ (digit_of (number / 100 % 10) (omega arith))
    (and_from (is_digit (48 + number / 10 % 10)) _ (digit_of (number / 10 % 10) (omega arith))
    (and_from (is_digit (48 + number % 10)) _ (digit_of (number % 10) (omega arith)) refl))

-- a letter, a number of three digits, and more
pub numbered_plain : (letter number : ℕ) (tail : List ℕ) → is_letter letter ≡ true → list_all continues_word tail ≡ true → IsPlain (numbered letter number ++ tail)
numbered_plain letter number tail is more =
    let digits = three-digits (number + 1) in
    let (first, others) = and_parts (is_digit (48 + (number + 1) / 100 % 10)) _ digits in
    word_plain letter (48 + (number + 1) / 100 % 10) ((48 + (number + 1) / 10 % 10) ∷ (48 + (number + 1) % 10) ∷ tail) is first
    (continues-append ((48 + (number + 1) / 10 % 10) ∷ (48 + (number + 1) % 10) ∷ []) tail (digits_continue ((48 + (number + 1) / 10 % 10) ∷ (48 + (number + 1) % 10) ∷ []) others) more)

-- a name that is made from a letter and a number
name_bytes_continue : (xs : List ℕ) → list_all is_name_byte xs ≡ true → list_all continues_word xs ≡ true
name_bytes_continue [] all = refl
name_bytes_continue (x ∷ xs) all =
    let (first, more) = and_parts (is_name_byte x) (list_all is_name_byte xs) all in
    and_from (continues_word x) (list_all continues_word xs) (one first) (name_bytes_continue xs more)
  where
    one : is_name_byte x ≡ true → continues_word x ≡ true
    one is =
        elim (or_cases (is_letter x) (is_digit x || x == 95) is) [
          | inl letter ↦ or_left (begins_word x) (is_digit x || x == 36) (or_left (is_letter x) (x == 95) letter)
          | inr other ↦
              elim (or_cases (is_digit x) (x == 95) other) [
                | inl digit ↦ or_right (begins_word x) (is_digit x || x == 36) (or_left (is_digit x) (x == 36) digit)
                | inr line ↦ or_left (begins_word x) (is_digit x || x == 36) (or_right (is_letter x) (x == 95) line)
              ]
        ]

pub part_plain : (letter number : ℕ) (name : List ℕ) → is_letter letter ≡ true → IsPartName (numbered letter number) name → IsPlain name
part_plain letter number name is named = subst IsPlain (sym named.is) (numbered_plain letter number named.rest is (name_bytes_continue named.rest named.bytes))

-- the root of a bank
pub root_plain : (bank : ℕ) → IsPlain (root_name bank)
root_plain zero = refl
root_plain (suc bank) = numbered_plain 97 (suc bank) [] refl refl

-- an inner rail
pub inner_plain : (bank bit : ℕ) (r : Bool) → IsPlain (name_at (inner_pair bank bit) r)
inner_plain bank bit true = numbered_plain 119 bank (numbered 98 bit ++ codes "_1") refl (continues-append (numbered 98 bit) (codes "_1") (and_from (continues_word 98) _ refl (digits_continue (three_digits (bit + 1)) (three-digits (bit + 1)))) refl)
inner_plain bank bit false = numbered_plain 119 bank (numbered 98 bit ++ codes "_0") refl (continues-append (numbered 98 bit) (codes "_0") (and_from (continues_word 98) _ refl (digits_continue (three_digits (bit + 1)) (three-digits (bit + 1)))) refl)

-- digits, of which there is one
abbrev AreDigits : List ℕ → Type 0
AreDigits xs = (list_all is_digit xs ≡ true) × (0 < length xs)

decimal_digits : (number : ℕ) → number < 2 ^ 64 → AreDigits (decimal number)
decimal_digits = decimal_by_steps (λ number ds. AreDigits ds)
    (λ number small. (and_from (is_digit (48 + number)) _ (digit_of number small) refl, omega arith))
    (λ number ds large digits. (digits-append ds (48 + number % 10) digits.0 (digit_of (number % 10) (omega arith)), omega (arith, length-append ds ((48 + number % 10) ∷ []))))
  where
    digits-append : (xs : List ℕ) (y : ℕ) → list_all is_digit xs ≡ true → is_digit y ≡ true → list_all is_digit (xs ++ y ∷ []) ≡ true
    digits-append [] y of_x of_y = and_from (is_digit y) _ of_y refl
    digits-append (x ∷ xs) y of_x of_y =
        let (first, more) = and_parts (is_digit x) (list_all is_digit xs) of_x in
        and_from (is_digit x) (list_all is_digit (xs ++ y ∷ [])) first (digits-append xs y more of_y)

-- a rail of a port
letter_digits_plain : (letter : ℕ) (digits tail : List ℕ) → is_letter letter ≡ true → AreDigits digits → list_all continues_word tail ≡ true → is_plain (letter ∷ (digits ++ tail)) ≡ true
letter_digits_plain letter [] tail is digits more = absurd (omega (arith, digits.1))
letter_digits_plain letter (d ∷ ds) tail is digits more =
    let (first, others) = and_parts (is_digit d) (list_all is_digit ds) digits.0 in
    word_plain letter d (ds ++ tail) is first (continues-append ds tail (digits_continue ds others) more)

pub port_plain : (letter number : ℕ) (r : Bool) → is_letter letter ≡ true → number < 999 → IsPlain (name_at (port_pair (letter ∷ []) number) r)
port_plain letter number true is below = letter_digits_plain letter (decimal number) (codes "_1") is (decimal_digits number (omega (arith, below))) refl
port_plain letter number false is below = letter_digits_plain letter (decimal number) (codes "_0") is (decimal_digits number (omega (arith, below))) refl
