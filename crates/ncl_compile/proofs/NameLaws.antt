-- The names of ports, rails and roots: which differ, and what they begin with.
pub use Rattle.ncl_compile.proofs.Terms.{AreApart, apart_from_differ, differ_from_apart}
use Rattle.ncl_compile.proofs.Terms.{All-from_members, AllPairs-cons, Bool, List, Member, NamePair, [], ap, append_assoc, arith, decimal, decimal_is_IsNumeral, digits_value, false, inl, inner_pair, inr, map, member_cases, numbered, pair_names, port_pair, range_with_len, refl, same_from_push, suc, sym, three_digits, true, zero, ℕ, ◌%◌, ◌++◌, ◌+◌, ◌/◌, ◌<◌, ◌^◌, ◌∙◌, ◌∷◌, ◌≡◌, ◌≢◌, ◌≤◌}

-- one name more that is none of them
pub apart_more : (x : List ℕ) (names : List (List ℕ)) → ((y : List ℕ) → Member y names → x ≢ y) → AreApart names → AreApart (x ∷ names)
apart_more x names other apart = AllPairs-cons (λ x y. x ≢ y) x names (All-from_members (λ y. x ≢ y) names other) apart

-- a name begins with a letter
pub record BeginsWith (letter : ℕ) (name : List ℕ) : Type 0 where
  pub rest : List ℕ
  pub is : name ≡ letter ∷ rest

-- a letter and three digits tell the place
pub same_numbered : (letter a b : ℕ) (rest other : List ℕ) → a < 999 → b < 999 → numbered letter a ++ rest ≡ numbered letter b ++ other → a ≡ b
same_numbered letter a b rest other a_below b_below same =
    let hundreds : 48 + (a + 1) / 100 % 10 ≡ 48 + (b + 1) / 100 % 10 = cc in
    let tens : 48 + (a + 1) / 10 % 10 ≡ 48 + (b + 1) / 10 % 10 = cc in
    let ones : 48 + (a + 1) % 10 ≡ 48 + (b + 1) % 10 = cc in
    omega arith

-- the decimal digits of a number tell it
same_decimal : (a b : ℕ) → a < 2 ^ 64 → b < 2 ^ 64 → decimal a ≡ decimal b → a ≡ b
same_decimal a b a_below b_below same = sym (decimal_is_IsNumeral a a_below).1 ∙ ap (digits_value 10) same ∙ (decimal_is_IsNumeral b b_below).1

-- one name of a pair
abbrev pub name_at : NamePair → Bool → List ℕ
name_at pair true = pair.one
name_at pair false = pair.zero

-- the digit of a rail
abbrev pub rail_digit : Bool → ℕ
rail_digit true = 49
rail_digit false = 48

same_rail : (r q : Bool) → rail_digit r ≡ rail_digit q → r ≡ q
same_rail true true same = refl
same_rail false false same = refl
same_rail true false same = absurd (omega (arith, same))
same_rail false true same = absurd (omega (arith, same))

-- the names of a port: a letter, a number, `_` and the rail
port_name : (letter number : ℕ) (r : Bool) → name_at (port_pair (letter ∷ []) number) r ≡ letter ∷ ((decimal number ++ 95 ∷ []) ++ rail_digit r ∷ [])
port_name letter number true = ap (λ l. letter ∷ l) (sym (append_assoc (decimal number) (95 ∷ []) (49 ∷ [])))
port_name letter number false = ap (λ l. letter ∷ l) (sym (append_assoc (decimal number) (95 ∷ []) (48 ∷ [])))

pub port_begins : (letter number : ℕ) (r : Bool) → BeginsWith letter (name_at (port_pair (letter ∷ []) number) r)
port_begins letter number r = record { rest = (decimal number ++ 95 ∷ []) ++ rail_digit r ∷ []; is = port_name letter number r }

pub same_port : (letter a b : ℕ) (r q : Bool) → a < 999 → b < 999 → name_at (port_pair (letter ∷ []) a) r ≡ name_at (port_pair (letter ∷ []) b) q → (a ≡ b) × (r ≡ q)
same_port letter a b r q a_below b_below same =
    let both : letter ∷ ((decimal a ++ 95 ∷ []) ++ rail_digit r ∷ []) ≡ letter ∷ ((decimal b ++ 95 ∷ []) ++ rail_digit q ∷ []) = sym (port_name letter a r) ∙ same ∙ port_name letter b q in
    let tails : (decimal a ++ 95 ∷ []) ++ rail_digit r ∷ [] ≡ (decimal b ++ 95 ∷ []) ++ rail_digit q ∷ [] = cc in
    let (stems, rails) = same_from_push (decimal a ++ 95 ∷ []) (decimal b ++ 95 ∷ []) (rail_digit r) (rail_digit q) tails in
    let (digits, lines) = same_from_push (decimal a) (decimal b) 95 95 stems in
    (same_decimal a b (omega (arith, a_below)) (omega (arith, b_below)) digits, same_rail r q rails)

-- the names of an inner rail: the bank, the bit, `_` and the rail
inner_name : (bank bit : ℕ) (r : Bool) → name_at (inner_pair bank bit) r ≡ numbered 119 bank ++ (numbered 98 bit ++ (95 ∷ rail_digit r ∷ []))
inner_name bank bit true = refl
inner_name bank bit false = refl

pub inner_begins : (bank bit : ℕ) (r : Bool) → BeginsWith 119 (name_at (inner_pair bank bit) r)
inner_begins bank bit r = record { rest = three_digits (bank + 1) ++ (numbered 98 bit ++ (95 ∷ rail_digit r ∷ [])); is = inner_name bank bit r }

pub same_inner : (j k a b : ℕ) (r q : Bool) → j < 999 → k < 999 → a < 999 → b < 999 → name_at (inner_pair j a) r ≡ name_at (inner_pair k b) q → (j ≡ k) × (a ≡ b) × (r ≡ q)
same_inner j k a b r q j_below k_below a_below b_below same =
    let both : numbered 119 j ++ (numbered 98 a ++ (95 ∷ rail_digit r ∷ [])) ≡ numbered 119 k ++ (numbered 98 b ++ (95 ∷ rail_digit q ∷ [])) = sym (inner_name j a r) ∙ same ∙ inner_name k b q in
    let later : numbered 98 a ++ (95 ∷ rail_digit r ∷ []) ≡ numbered 98 b ++ (95 ∷ rail_digit q ∷ []) = cc in
    let rails : rail_digit r ≡ rail_digit q = cc in
    (same_numbered 119 j k _ _ j_below k_below both, same_numbered 98 a b _ _ a_below b_below later, same_rail r q rails)

-- the names of pairs that are numbered
abbrev numbered_names : (ℕ → NamePair) → ℕ → ℕ → List (List ℕ)
numbered_names pair first count = pair_names (map pair (range_with_len first count))

-- one of them is a name of one of the pairs
pub name_of_pairs : (pair : ℕ → NamePair) (first count : ℕ) (name : List ℕ) → Member name (numbered_names pair first count) → (i : ℕ) × (r : Bool) × (first ≤ i) × (i < first + count) × (name_at (pair i) r ≡ name)
name_of_pairs pair first zero name m = elim m [ ]
name_of_pairs pair first (suc count) name m =
    elim (member_cases name (pair first).zero ((pair first).one ∷ numbered_names pair (first + 1) count) m) [
      | inl same ↦ (first, false, omega arith, omega arith, same)
      | inr rest ↦
          elim (member_cases name (pair first).one (numbered_names pair (first + 1) count) rest) [
            | inl same ↦ (first, true, omega arith, omega arith, same)
            | inr later ↦ let (i, r, from, to, same) = name_of_pairs pair (first + 1) count name later in (i, r, omega (arith, from), omega (arith, to), same)
          ]
    ]

-- whether each tells its number and its rail
abbrev pub TellsNumber : (ℕ → NamePair) → ℕ → Type 0
TellsNumber pair limit = (i j : ℕ) (r q : Bool) → i < limit → j < limit → name_at (pair i) r ≡ name_at (pair j) q → (i ≡ j) × (r ≡ q)

-- a name of the first pair is none of the others
later_name : (pair : ℕ → NamePair) (first count limit : ℕ) → first + 1 + count ≤ limit → TellsNumber pair limit → (r : Bool) (y : List ℕ) → Member y (numbered_names pair (first + 1) count) → name_at (pair first) r ≢ y
later_name pair first count limit few one r y m same =
    let (i, q, from, to, named) = name_of_pairs pair (first + 1) count y m in
    let (numbers, rails) = one first i r q (omega (arith, few)) (omega (arith, to, few)) (same ∙ sym named) in
    omega (arith, from, numbers)

-- they differ, where each tells its number and its rail
pub numbered_apart : (pair : ℕ → NamePair) (first count limit : ℕ) → first + count ≤ limit → TellsNumber pair limit → AreApart (numbered_names pair first count)
numbered_apart pair first zero limit few one = λ i j d before within. absurd (omega (arith, within))
numbered_apart pair first (suc count) limit few one =
    apart_more (pair first).zero ((pair first).one ∷ numbered_names pair (first + 1) count) after_zero
    (apart_more (pair first).one (numbered_names pair (first + 1) count) (later_name pair first count limit (omega (arith, few)) one true)
    (numbered_apart pair (first + 1) count limit (omega (arith, few)) one))
  where
    after_zero : (y : List ℕ) → Member y ((pair first).one ∷ numbered_names pair (first + 1) count) → (pair first).zero ≢ y
    after_zero y m same =
        elim (member_cases y (pair first).one (numbered_names pair (first + 1) count) m) [
          | inl other ↦
              let (numbers, rails) = one first first false true (omega (arith, few)) (omega (arith, few)) (same ∙ sym other) in
              absurd cc
          | inr rest ↦ later_name pair first count limit (omega (arith, few)) one false y rest same
        ]
