-- Masks of bits, and words that agree at the bits of a mask.
use Rattle.ncl_verdict.proofs.Terms.{Agree, AgreeOn, Bool, IsPart, List, Member, [], ap, arith, bit_and, bit_at, bit_at-lt, bit_at-suc, bit_at_and, bit_at_lowest, bit_or, both_ways, cases_eq, cases_lt, count_ones, eq-eqb, eqb-true, false, fold, get_or, get_or_past, here, inl, inr, is_part, is_set, is_set-or, length, length-placed, nat_eq, nat_le, nat_tests, ones_step, or_cases, or_left, or_right, placed, placed-at, pow_pos, pow_suc, refl, same_from_bits, suc, sym, there, true, union, weight, width_of, zero, ℕ, ◌%◌, ◌+◌, ◌/◌, ◌<◌, ◌^◌, ◌||◌, ◌∙◌, ◌∷◌, ◌≡◌, ◌≤◌, ◌⊎◌}
use Rattle.std.specs.Prelude.{min}
use Rattle.ncl_stage.specs.BitOrder.{place_in}

-- ---- parts
pub part-along : (a b c : ℕ) → IsPart a b → IsPart b c → IsPart a c
part-along a b c first second p set = second p (first p set)

pub part-left : (a b : ℕ) → IsPart a (bit_or a b)
part-left a b p set = is_set-or a b p ∙ or_left (is_set a p) (is_set b p) set

pub part-right : (a b : ℕ) → IsPart b (bit_or a b)
part-right a b p set = is_set-or a b p ∙ or_right (is_set a p) (is_set b p) set

pub part-test : (a b : ℕ) → IsPart a b → is_part a b ≡ true
part-test a b part = eq-eqb (bit_and a b) a (same_from_bits (bit_and a b) a (λ i. bit_at_and a b i ∙ least i))
  where
    least : (i : ℕ) → min (bit_at a i) (bit_at b i) ≡ bit_at a i
    least i = elim (cases_eq (bit_at a i) 1) [
      | inl one ↦ (let other : bit_at b i ≡ 1 = eqb-true (bit_at b i) 1 (part i (eq-eqb (bit_at a i) 1 one)) in omega (arith, one, other))
      | inr apart ↦ (let few = bit_at-lt a i in omega (arith, few, apart))
    ]

-- of masks together each is a part
pub union-from : (a : ℕ) (masks : List ℕ) → IsPart a (fold bit_or a masks)
union-from a [] = λ p set. set
union-from a (mask ∷ masks) = part-along a (bit_or a mask) (fold bit_or (bit_or a mask) masks) (part-left a mask) (union-from (bit_or a mask) masks)

union-of : (mask a : ℕ) {masks : List ℕ} → Member mask masks → IsPart mask (fold bit_or a masks)
union-of mask a (here {xs = masks}) = part-along mask (bit_or a mask) (fold bit_or (bit_or a mask) masks) (part-right a mask) (union-from (bit_or a mask) masks)
union-of mask a (there {y = other} m) = union-of mask (bit_or a other) m

pub union-has : (mask : ℕ) (masks : List ℕ) → Member mask masks → IsPart mask (union masks)
union-has mask masks m = union-of mask 0 m

-- ---- marks of the first places
abbrev pub marks_of : ℕ → ℕ → List Bool
marks_of zero mask = []
marks_of (suc k) mask = is_set mask 0 ∷ marks_of k (mask / 2)

pub marks-width : (k mask : ℕ) → width_of (marks_of k mask) ≡ k + 3
marks-width zero mask = refl
marks-width (suc k) mask = let rest = marks-width k (mask / 2) in omega arith

pub marks-weight : (k mask : ℕ) → weight (marks_of k mask) + 1 ≤ 2 ^ count_ones mask
marks-weight zero mask = let some = pow_pos (count_ones mask) in omega arith
marks-weight (suc k) mask = by (is_set mask 0) refl (marks-weight k (mask / 2))
  where
    by : (b : Bool) → is_set mask 0 ≡ b → weight (marks_of k (mask / 2)) + 1 ≤ 2 ^ count_ones (mask / 2) → weight (b ∷ marks_of k (mask / 2)) + 1 ≤ 2 ^ count_ones mask
    by true set rest =
        let odd : mask % 2 ≡ 1 = sym (bit_at_lowest mask) ∙ eqb-true (bit_at mask 0) 1 set in
        let more : count_ones mask ≡ suc (count_ones (mask / 2)) = omega (arith, ones_step mask, odd) in
        let twice : 2 ^ count_ones mask ≡ 2 ^ count_ones (mask / 2) + 2 ^ count_ones (mask / 2) = ap (λ n. 2 ^ n) more ∙ pow_suc (count_ones (mask / 2)) in
        omega (arith, twice, rest)
    by false unset rest =
        let apart : mask % 2 ≡ 1 → ⊥ = λ odd. both_ways (is_set mask 0) unset (eq-eqb (bit_at mask 0) 1 (bit_at_lowest mask ∙ odd)) in
        let same : count_ones mask ≡ count_ones (mask / 2) = omega (arith, ones_step mask, apart) in
        let power : 2 ^ count_ones mask ≡ 2 ^ count_ones (mask / 2) = ap (λ n. 2 ^ n) same in
        omega (arith, power, rest)

-- ---- words that agree at the places of a mask, and at all from one place on
abbrev pub Sees : ℕ → ℕ → List Bool → List Bool → Type 0
Sees k mask v w = (p : ℕ) → (is_set mask p ≡ true) ⊎ (k ≤ p) → get_or v p false ≡ get_or w p false

pub agree-sees : (k mask : ℕ) (v w : List Bool) → Agree (marks_of k mask) v w → Sees k mask v w
agree-sees zero mask v w agree p on = ap (λ l. get_or l p false) agree
agree-sees (suc k) mask v w agree p on = step (is_set mask 0) refl (agree-sees k (mask / 2)) v w agree p on
  where
    halved : (p : ℕ) → (is_set mask (suc p) ≡ true) ⊎ (suc k ≤ suc p) → (is_set (mask / 2) p ≡ true) ⊎ (k ≤ p)
    halved p on = elim on [ inl set ↦ inl (ap (λ n. nat_eq n 1) (sym (bit_at-suc mask p)) ∙ set) | inr past ↦ inr (omega arith) ]

    no_first : is_set mask 0 ≡ false → (is_set mask 0 ≡ true) ⊎ (suc k ≤ 0) → ⊥
    no_first unset on = elim on [ inl set ↦ both_ways (is_set mask 0) unset set | inr past ↦ omega arith ]

    step : (b : Bool) → is_set mask 0 ≡ b → ((v w : List Bool) → Agree (marks_of k (mask / 2)) v w → Sees k (mask / 2) v w) → (v w : List Bool) → Agree (b ∷ marks_of k (mask / 2)) v w → Sees (suc k) mask v w
    step true set rest [] [] agree p on = refl
    step true set rest [] (y ∷ w) agree p on = absurd agree
    step true set rest (x ∷ v) [] agree p on = absurd agree
    step true set rest (x ∷ v) (y ∷ w) agree zero on = agree.0
    step true set rest (x ∷ v) (y ∷ w) agree (suc p) on = rest v w agree.1 p (halved p on)
    step false unset rest [] [] agree p on = refl
    step false unset rest [] (y ∷ w) agree p on = absurd agree
    step false unset rest (x ∷ v) [] agree p on = absurd agree
    step false unset rest (x ∷ v) (y ∷ w) agree zero on = absurd (no_first unset on)
    step false unset rest (x ∷ v) (y ∷ w) agree (suc p) on = rest v w agree p (halved p on)

-- ---- the bits of an order at which a function may look: those of a mask, and the last ones
abbrev pub marked : List ℕ → ℕ → ℕ → ℕ → Bool
marked order k mask bit = is_set mask (place_in order bit) || nat_le k (place_in order bit)

le_test : (a b : ℕ) → a ≤ b → nat_le a b ≡ true
le_test a b le = grind (arith, nat_tests)

from_le_test : (a b : ℕ) → nat_le a b ≡ true → a ≤ b
from_le_test a b e = grind (arith, nat_tests)

pub marked-at : (order : List ℕ) (k mask bit : ℕ) → (place_in order bit < k → is_set mask (place_in order bit) ≡ true) → marked order k mask bit ≡ true
marked-at order k mask bit set =
    elim (cases_lt (place_in order bit) k) [
      | inl before ↦ or_left (is_set mask (place_in order bit)) (nat_le k (place_in order bit)) (set before)
      | inr after ↦ or_right (is_set mask (place_in order bit)) (nat_le k (place_in order bit)) (le_test k (place_in order bit) after)
    ]

pub marked-part : (order : List ℕ) (k a b : ℕ) → IsPart a b → (bit : ℕ) → marked order k a bit ≡ true → marked order k b bit ≡ true
marked-part order k a b part bit on =
    elim (or_cases (is_set a (place_in order bit)) (nat_le k (place_in order bit)) on) [
      | inl set ↦ or_left (is_set b (place_in order bit)) (nat_le k (place_in order bit)) (part (place_in order bit) set)
      | inr past ↦ or_right (is_set b (place_in order bit)) (nat_le k (place_in order bit)) past
    ]

-- placed words agree on them where the words do at the places
pub agree-on : (order : List ℕ) (k mask : ℕ) (v w : List Bool) → Sees k mask v w → AgreeOn (marked order k mask) (placed order v) (placed order w)
agree-on order k mask v w sees bit on =
    elim (cases_lt bit (length order)) [
      | inl lt ↦
          placed-at order v bit lt
          ∙ sees (place_in order bit) (elim (or_cases (is_set mask (place_in order bit)) (nat_le k (place_in order bit)) on) [ inl set ↦ inl set | inr past ↦ inr (from_le_test k (place_in order bit) past) ])
          ∙ sym (placed-at order w bit lt)
      | inr past ↦ get_or_past (placed order v) bit false (omega (arith, length-placed order v, past)) ∙ sym (get_or_past (placed order w) bit false (omega (arith, length-placed order w, past)))
    ]
