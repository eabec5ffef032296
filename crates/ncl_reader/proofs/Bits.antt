-- Digits and their values, the names of bits, and the numbers of a vector.
pub use Rattle.ncl_reader.proofs.Terms.{◌≡◌, ℕ, zero, suc, ◌+◌, ◌-◌, ◌^◌, ◌<◌, ◌≤◌, arith, List, [], ◌∷◌, ◌++◌, length, get_or, Bool, true, false, cond, refl, sym, ◌∙◌, subst, ◌≢◌, inl, inr, decimal, nat_le, AllDigits, false≢true, le-leb, leb-true, decimal_is_IsNumeral, decimal_injective, same_from_push, ap, length-append, Span, width, bit_name, up_from, down_from, numbers_of, split_push, take, drop, drop-cons, slice_index, digits_value, cases_lt, decimal_digit, first_decimal, length-decimal-le, decimal-digits_value, IsNumeralModel, append_assoc, IsTooLarge, HasBracketAt, ◌*◌, ◌&&◌, pow-le-pow_right, length-take-le, digit_value_digit, digit_from_value, digits_value-lt, digit_value, is_ascii_digit, list_all, digits_value_after, Covers, Option, Some, None, option_map, same_Some, Ranges, Lexeme, Range, span_of, IsDeclared, IsVector, IsBit, IsRanges, range_at, drop_all, ◌⊎◌, MatchOption, take_rest, digits_more, map, take_more, map_push, take_all, bit_port, length-drop, digits_value_more}

-- no `[` stands
abbrev pub NoOpen : List ℕ → Type 0
NoOpen bytes = (front rest : List ℕ) → bytes ≢ front ++ 91 ∷ rest

-- digits have none, nor have they with a `]`
pub digits_open : (digits : List ℕ) → AllDigits 10 digits → NoOpen digits
digits_open [] all front rest e = omega (arith, ap length e, length-append front (91 ∷ rest))
digits_open (c ∷ digits) all [] rest e = let same : c ≡ 91 = cc in bracket (subst (λ b. AllDigits 10 (b ∷ digits)) same all)
  where
    bracket : AllDigits 10 (91 ∷ digits) → ⊥
    bracket all = omega (arith, all.0)
digits_open (c ∷ digits) all (f ∷ front) rest e = let others : digits ≡ front ++ 91 ∷ rest = cc in digits_open digits all.1 front rest others

closed_open : (digits : List ℕ) → AllDigits 10 digits → NoOpen (digits ++ 93 ∷ [])
closed_open digits all front rest e = elim (split_push digits 93 front 91 rest e) [
  | inl (same, last) ↦ omega (arith, last)
  | inr (left, inside) ↦ digits_open digits all front left inside
]

-- two texts with a `[`, behind which none stands, are cut there alike
pub one_open : (v w d e : List ℕ) → NoOpen d → NoOpen e → v ++ 91 ∷ d ≡ w ++ 91 ∷ e → (v ≡ w) × (d ≡ e)
one_open [] [] d e ds es same = (refl, let rest : d ≡ e = cc in rest)
one_open [] (x ∷ w) d e ds es same = absurd (ds w e (let rest : d ≡ w ++ 91 ∷ e = cc in rest))
one_open (x ∷ v) [] d e ds es same = absurd (es v d (let rest : e ≡ v ++ 91 ∷ d = cc in rest))
one_open (x ∷ v) (y ∷ w) d e ds es same =
    let heads : x ≡ y = cc in
    let rest : v ++ 91 ∷ d ≡ w ++ 91 ∷ e = cc in
    let (fronts, backs) = one_open v w d e ds es rest in
    ((λ i. heads i ∷ fronts i), backs)

-- the name of a bit tells the vector and the number
pub bit_name-injective : (v w : List ℕ) (k j : ℕ) → k < 2 ^ 64 → j < 2 ^ 64 → bit_name v k ≡ bit_name w j → (v ≡ w) × (k ≡ j)
bit_name-injective v w k j few less same =
    let (fronts, backs) = one_open v w (decimal k ++ 93 ∷ []) (decimal j ++ 93 ∷ []) (closed_open (decimal k) (decimal_is_IsNumeral k few).0.1) (closed_open (decimal j) (decimal_is_IsNumeral j less).0.1) same in
    (fronts, decimal_injective k j few less (same_from_push (decimal k) (decimal j) 93 93 backs).0)

-- the numbers of a vector: as many as its width
pub length-up_from : (k n : ℕ) → length (up_from k n) ≡ n
length-up_from k zero = refl
length-up_from k (suc n) = let rest = length-up_from (k + 1) n in omega (arith, rest)

pub length-down_from : (k n : ℕ) → length (down_from k n) ≡ n
length-down_from k zero = refl
length-down_from k (suc n) = let rest = length-down_from (k - 1) n in omega (arith, rest)

pub length-numbers_of : (span : Span) → length (numbers_of span) ≡ width span
length-numbers_of span = by (nat_le span.first span.last)
  where
    by : (b : Bool) → length (cond b (up_from span.first (width span)) (down_from span.first (width span))) ≡ width span
    by true = length-up_from span.first (width span)
    by false = length-down_from span.first (width span)

-- each is covered
pub get-up_from : (k n i d : ℕ) → i < n → get_or (up_from k n) i d ≡ k + i
get-up_from k zero i d less = absurd (omega (arith, less))
get-up_from k (suc n) zero d less = omega arith
get-up_from k (suc n) (suc i) d less = let rest = get-up_from (k + 1) n i d (omega (arith, less)) in rest ∙ omega arith

pub get-down_from : (k n i d : ℕ) → i < n → get_or (down_from k n) i d ≡ k - i
get-down_from k zero i d less = absurd (omega (arith, less))
get-down_from k (suc n) zero d less = omega arith
get-down_from k (suc n) (suc i) d less = let rest = get-down_from (k - 1) n i d (omega (arith, less)) in rest ∙ omega arith

-- an element doesn't depend on what stands for none
pub at_default : (xs : List ℕ) (i a b : ℕ) → i < length xs → get_or xs i a ≡ get_or xs i b
at_default [] i a b less = absurd (omega (arith, less))
at_default (x ∷ xs) zero a b less = refl
at_default (x ∷ xs) (suc i) a b less = at_default xs i a b (omega (arith, less))

-- the number at a place
pub number-rises : (span : Span) (place : ℕ) → span.first ≤ span.last → place < width span → span.first + place ≡ get_or (numbers_of span) place 0
number-rises span place rises within = by (nat_le span.first span.last) (le-leb span.first span.last rises)
  where
    by : (b : Bool) → b ≡ true → span.first + place ≡ get_or (cond b (up_from span.first (width span)) (down_from span.first (width span))) place 0
    by true e = sym (get-up_from span.first (width span) place 0 within)
    by false e = absurd (false≢true e)

pub number-falls : (span : Span) (place : ℕ) → (span.last < span.first) → place < width span → span.first - place ≡ get_or (numbers_of span) place 0
number-falls span place falls within = by (nat_le span.first span.last) refl
  where
    by : (b : Bool) → nat_le span.first span.last ≡ b → span.first - place ≡ get_or (cond b (up_from span.first (width span)) (down_from span.first (width span))) place 0
    by true e = absurd (omega (arith, falls, leb-true span.first span.last e))
    by false e = sym (get-down_from span.first (width span) place 0 within)

own : IsNumeralModel (AllDigits 10) (digits_value 10)
own = record { to = λ ds all. all; from = λ ds all. all; same = λ ds all. refl }

-- what `decimal` writes of a small number
pub decimal-digits : (k : ℕ) → k < 65536 → AllDigits 10 (decimal k)
decimal-digits k small = (decimal_is_IsNumeral k (omega (arith, small))).0.1

pub decimal-value : (k : ℕ) → k < 65536 → digits_value 10 (decimal k) ≡ k
decimal-value k small = (decimal_is_IsNumeral k (omega (arith, small))).1

-- no number has a leading zero
pub no_leading : (k : ℕ) (digits : List ℕ) → k < 65536 → digits ≡ decimal k → (0 < length digits → (slice_index digits 0 ≡ 48) × (1 < length digits)) → ⊥
no_leading zero digits small is leading =
    let one : digits ≡ 48 ∷ [] = is ∙ decimal_digit 0 (omega arith) in
    let count : length digits ≡ 1 = ap length one in
    let (first, more) = leading (omega (arith, count)) in
    omega (arith, count, more)
no_leading (suc k) digits small is leading =
    let some : 0 < length (decimal (suc k)) = (decimal_is_IsNumeral (suc k) (omega (arith, small))).0.0 in
    let (first, more) = leading (subst (λ ds. 0 < length ds) (sym is) some) in
    let lead : 48 < get_or (decimal (suc k)) 0 0 = first_decimal (suc k) (omega arith) (omega (arith, small)) in
    let same : get_or digits 0 0 ≡ get_or (decimal (suc k)) 0 0 = ap (λ ds. get_or ds 0 0) is in
    omega (arith, lead, same, first)

-- none is too large
pub not_large : (k : ℕ) (digits : List ℕ) → k < 65536 → digits ≡ decimal k → IsTooLarge digits → ⊥
not_large k digits small is (inl many) =
    let few : length (decimal k) ≤ 5 = length-decimal-le 5 k (omega arith) (omega (arith, small)) (omega (arith, small)) in
    omega (arith, many, few, ap length is)
not_large k digits small is (inr much) = omega (arith, much, small, ap (digits_value 10) is, decimal-value k small)

-- digits without a leading zero are what `decimal` writes
pub is_decimal : (digits : List ℕ) (n : ℕ) → AllDigits 10 digits → ((0 < length digits → (slice_index digits 0 ≡ 48) × (1 < length digits)) → ⊥) → n ≡ digits_value 10 digits → n < 65536 → digits ≡ decimal n
is_decimal digits n all fine is small = elim (cases_lt 0 (length digits)) [
  | inl some ↦ sym (decimal-digits_value own digits all some (lead some) (omega (arith, is, small))) ∙ ap decimal (sym is)
  | inr none ↦ absurd (fine (λ some. absurd (omega (arith, some, none))))
]
  where
    lead : 0 < length digits → get_or digits 0 0 ≡ 48 → length digits ≡ 1
    lead some first = elim (cases_lt 1 (length digits)) [
      | inl more ↦ absurd (fine (λ s. (first, more)))
      | inr most ↦ omega (arith, some, most)
    ]

-- one byte more in front that is no bracket
pub bracket-front : (bytes : List ℕ) (n : ℕ) → 0 < n → n ≤ length bytes → get_or bytes (n - 1) 0 ≢ 91 → ((front rest : List ℕ) → drop n bytes ≢ front ++ 91 ∷ rest) → (front rest : List ℕ) → drop (n - 1) bytes ≢ front ++ 91 ∷ rest
bracket-front bytes n some within other none front rest e = by front (sym parts ∙ e)
  where
    parts : drop (n - 1) bytes ≡ get_or bytes (n - 1) 0 ∷ drop n bytes
    parts =
        let next : suc (n - 1) ≡ n = omega (arith, some) in
        drop-cons bytes (n - 1) 0 (omega (arith, some, within)) ∙ ap (λ k. get_or bytes (n - 1) 0 ∷ drop k bytes) next

    by : (front : List ℕ) → get_or bytes (n - 1) 0 ∷ drop n bytes ≡ front ++ 91 ∷ rest → ⊥
    by [] e = let same : get_or bytes (n - 1) 0 ≡ 91 = cc in other same
    by (f ∷ front) e = let more : drop n bytes ≡ front ++ 91 ∷ rest = cc in none front rest more

-- the name of a bit without its `]`
inner_of : (name inner vector : List ℕ) (k : ℕ) → name ≡ inner ++ 93 ∷ [] → name ≡ bit_name vector k → inner ≡ vector ++ 91 ∷ decimal k
inner_of name inner vector k ends is = (same_from_push inner (vector ++ 91 ∷ decimal k) 93 93 (sym ends ∙ is ∙ sym (append_assoc vector (91 ∷ decimal k) (93 ∷ [])))).0

pub no_bit_open : (name inner : List ℕ) → name ≡ inner ++ 93 ∷ [] → NoOpen inner → (vector : List ℕ) (k : ℕ) → k < 65536 → name ≢ bit_name vector k
no_bit_open name inner ends none vector k small is = none vector (decimal k) (inner_of name inner vector k ends is)

pub no_bit_number : (name inner : List ℕ) (place : ℕ) → name ≡ inner ++ 93 ∷ [] → HasBracketAt inner place → ((k : ℕ) → k < 65536 → drop (place + 1) inner ≢ decimal k) → (vector : List ℕ) (k : ℕ) → k < 65536 → name ≢ bit_name vector k
no_bit_number name inner place ends at none vector k small is =
    none k small (one_open (take place inner) vector (drop (place + 1) inner) (decimal k) at.last (digits_open (decimal k) (decimal-digits k small)) (sym at.parts ∙ inner_of name inner vector k ends is)).1

-- each of the bytes is a digit
pub record IsDigitAt (bytes : List ℕ) (i : ℕ) : Type 0 where
  pub low : 48 ≤ get_or bytes i 0
  pub high : get_or bytes i 0 ≤ 57
  pub small : digit_value (get_or bytes i 0) < 10
  pub worth : digit_value (get_or bytes i 0) + 48 ≡ get_or bytes i 0

pub digit_at : (bytes : List ℕ) (i : ℕ) → AllDigits 10 bytes → i < length bytes → IsDigitAt bytes i
digit_at [] i all within = absurd (omega (arith, within))
digit_at (c ∷ cs) zero all within =
    let range = digit_from_value c all.0 in
    record { low = omega (arith, range); high = omega (arith, range); small = all.0; worth = digit_value_digit c range }
digit_at (c ∷ cs) (suc i) all within = let rest = digit_at cs i all.1 (omega (arith, within)) in record { low = rest.low; high = rest.high; small = rest.small; worth = rest.worth }

-- bytes that all are digits
one_digit : (c : ℕ) (rest : Bool) → (is_ascii_digit c && rest) ≡ true → (digit_value c < 10) × (rest ≡ true)
one_digit c rest e = by (nat_le 48 c) (nat_le c 57) rest refl refl e
  where
    by : (low high others : Bool) → nat_le 48 c ≡ low → nat_le c 57 ≡ high → ((low && high) && others) ≡ true → (digit_value c < 10) × (others ≡ true)
    by true true true l h e = let worth = digit_value_digit c (leb-true 48 c l, leb-true c 57 h) in (omega (arith, worth, leb-true c 57 h), refl)
    by true true false l h e = absurd (false≢true e)
    by true false others l h e = absurd (false≢true e)
    by false high others l h e = absurd (false≢true e)

pub all_digits : (bytes : List ℕ) → list_all is_ascii_digit bytes ≡ true → AllDigits 10 bytes
all_digits [] all = tt
all_digits (c ∷ cs) all = let (first, others) = one_digit c (list_all is_ascii_digit cs) all in (first, all_digits cs others)

-- the first bytes and the others are digits too
pub digits-take : (bytes : List ℕ) (i : ℕ) → AllDigits 10 bytes → AllDigits 10 (take i bytes)
digits-take bytes zero all = tt
digits-take [] (suc i) all = tt
digits-take (c ∷ cs) (suc i) all = (all.0, digits-take cs i all.1)

pub digits-drop : (bytes : List ℕ) (i : ℕ) → AllDigits 10 bytes → AllDigits 10 (drop i bytes)
digits-drop bytes zero all = all
digits-drop [] (suc i) all = tt
digits-drop (c ∷ cs) (suc i) all = digits-drop cs i all.1

-- the value of at most four digits
pub value_few : (bytes : List ℕ) (i : ℕ) → i < length bytes → length bytes ≤ 5 → AllDigits 10 bytes → digits_value 10 (take i bytes) < 10000
value_few bytes i within few all =
    let count : length (take i bytes) ≡ i = length-take-le i bytes (omega arith) in
    let within_few : i ≤ 4 = omega arith in
    let most : 10 ^ i ≤ 10 ^ 4 = pow-le-pow_right (omega arith) {j = 4} within_few in
    omega (arith, digits_value-lt 10 (take i bytes) (digits-take bytes i all), ap (λ n. 10 ^ n) count, most)

-- zeros at the front are worth nothing
pub value-zeros : (bytes : List ℕ) (i : ℕ) → i ≤ length bytes → ((k : ℕ) → k < i → get_or bytes k 0 ≡ 48) → digits_value 10 (drop i bytes) ≡ digits_value 10 bytes
value-zeros bytes zero within zeros = refl
value-zeros [] (suc i) within zeros = absurd (omega (arith, within))
value-zeros (c ∷ cs) (suc i) within zeros =
    let first : c ≡ 48 = zeros 0 (omega arith) in
    value-zeros cs i (omega (arith, within)) (λ k less. zeros (suc k) (omega (arith, less)))
    ∙ ap (λ b. digits_value_after 10 (0 * 10 + digit_value b) cs) (sym first)

-- more digits make no smaller value
after_most : (n : ℕ) (cs : List ℕ) → n ≤ digits_value_after 10 n cs
after_most n [] = omega arith
after_most n (c ∷ cs) = let rest = after_most (n * 10 + digit_value c) cs in omega (arith, rest)

-- six digits of which the first isn't 0
pub six_digits : (cs : List ℕ) → 5 < length cs → AllDigits 10 cs → 48 < get_or cs 0 0 → 99999 < digits_value 10 cs
six_digits (a ∷ b ∷ c ∷ d ∷ e ∷ f ∷ cs) many all first =
    let is = digit_at (a ∷ b ∷ c ∷ d ∷ e ∷ f ∷ cs) 0 all (omega arith) in
    let worth : 0 < digit_value a = omega (arith, is.worth, first) in
    let most = after_most (((((((0 * 10 + digit_value a) * 10 + digit_value b) * 10 + digit_value c) * 10 + digit_value d) * 10 + digit_value e) * 10 + digit_value f)) cs in
    omega (arith, most, worth)
six_digits cs many all first = absurd (omega (arith, many))

-- a number that is too large is none of a vector's
pub outside_large : (span : Span) (digits : List ℕ) → span.first < 65536 → span.last < 65536 → AllDigits 10 digits → (0 < length digits → 48 < get_or digits 0 0) → IsTooLarge digits → Covers span (digits_value 10 digits) → ⊥
outside_large span digits first last all lead large covers =
    let much : 65535 < digits_value 10 digits = elim large [
      | inl many ↦ omega (arith, six_digits digits many all (lead (omega (arith, many))))
      | inr more ↦ more
    ] in
    elim covers [
      | inl rising ↦ omega (arith, rising.1, last, much)
      | inr falling ↦ omega (arith, falling.1, first, much)
    ]

module _ (ranges : Ranges) (xs : List Lexeme) (is : IsRanges ranges xs) where
  -- the number of a bit is small
  pub few_bit : (vector : List ℕ) (range : Range) (k : ℕ) → IsVector xs vector range → Covers (span_of range) k → k < 65536
  few_bit vector range k declared covers =
      let (first, last) = is.small vector (span_of range) (is.declared vector (Some range) declared) in
      elim covers [
        | inl rising ↦ omega (arith, rising.1, last)
        | inr falling ↦ omega (arith, falling.1, first)
      ]

  -- a name that is no name of a bit
  pub no_bit : (name : List ℕ) → ((vector : List ℕ) (k : ℕ) → k < 65536 → name ≢ bit_name vector k) → IsBit xs name → ⊥
  no_bit name none (vector, range, k, named, declared, covers) = none vector k (few_bit vector range k declared covers) named

  module _ (name vector : List ℕ) (number : ℕ) (named : name ≡ bit_name vector number) (small : number < 65536) where
    same_bit : (v : List ℕ) (range : Range) (k : ℕ) → name ≡ bit_name v k → IsVector xs v range → Covers (span_of range) k → (vector ≡ v) × (number ≡ k)
    same_bit v range k other declared covers =
        let few = few_bit v range k declared covers in
        bit_name-injective vector v number k (omega (arith, small)) (omega (arith, few)) (sym named ∙ other)

    -- one of a vector that is declared
    pub some_bit : (span : Span) → range_at ranges vector ≡ Some (Some span) → Covers span number → IsBit xs name
    some_bit span found covers = by (is.only vector (Some span) found)
      where
        by : (range : Option Range) × IsDeclared xs vector range × (option_map span_of range ≡ Some span) → IsBit xs name
        by (None, declared, e) = absurd cc
        by (Some range, declared, e) = (vector, range, number, named, declared, subst (λ s. Covers s number) (sym (same_Some (span_of range) span e)) covers)

    pub bit_covers : (span : Span) → range_at ranges vector ≡ Some (Some span) → IsBit xs name → Covers span number
    bit_covers span found (v, range, k, other, declared, covers) =
        let (vs, ks) = same_bit v range k other declared covers in
        let here : range_at ranges v ≡ Some (Some (span_of range)) = is.declared v (Some range) declared in
        let spans : span ≡ span_of range = same_Some span (span_of range) (same_Some (Some span) (Some (span_of range)) (sym found ∙ ap (range_at ranges) vs ∙ here)) in
        subst (λ s. Covers s number) (sym spans) (subst (Covers (span_of range)) (sym ks) covers)

    pub no_vector_bit : ((span : Span) → range_at ranges vector ≢ Some (Some span)) → IsBit xs name → ⊥
    no_vector_bit none (v, range, k, other, declared, covers) =
        let (vs, ks) = same_bit v range k other declared covers in
        none (span_of range) (ap (range_at ranges) vs ∙ is.declared v (Some range) declared)
