-- Bits of numbers: of masks, and of words as numbers.
use Rattle.ncl_space.proofs.Terms.{Bool, List, None, Some, [], and_parts, ap, arith, bit_at, bit_at-lt, bit_at_above, bit_at_cat_high, bit_at_cat_low, bit_at_not, bit_at_ones, bit_at_ones_above, cases_lt, false, find, if◌then◌else◌, inl, inr, is_set, le-ltb, length, lt-ltb, nat_eq, nat_lt, not, option_map, option_or, refl, same_from_bits_below, slice_index_or, subst, suc, sym, table_of, true, w64, word_number, word_of, words, zero, ℕ, ◌&&◌, ◌*◌, ◌+◌, ◌-◌, ◌<◌, ◌^◌, ◌∙◌, ◌∷◌, ◌≡◌, ◌≤◌}
use Rattle.ncl_space.proofs.TableLaws.{pow_suc, at_table, find-words, find-same}

-- a bit of a number below 2 ^ k, at or past k
pub is_set-past : (n k i : ℕ) → n < 2 ^ k → k ≤ i → is_set n i ≡ false
is_set-past n k i less past = ap (λ (b : ℕ). nat_eq b 1) (bit_at_above n k i less past)

-- a bit of a * 2 ^ k + b with b below 2 ^ k: of b below k, and of a from k on
pub is_set-low : (a k b i : ℕ) → i < k → is_set (a * 2 ^ k + b) i ≡ is_set b i
is_set-low a k b i lt = ap (λ (d : ℕ). nat_eq d 1) (bit_at_cat_low a k b i lt)

pub is_set-high : (a k b i : ℕ) → b < 2 ^ k → k ≤ i → is_set (a * 2 ^ k + b) i ≡ is_set a (i - k)
is_set-high a k b i less le = ap (λ (d : ℕ). nat_eq d 1) (bit_at_cat_high a k b i less le)

-- numbers of n bits with the same bits are one
pub same_from_is_set : (n a b : ℕ) → a < 2 ^ n → b < 2 ^ n → ((i : ℕ) → i < n → is_set a i ≡ is_set b i) → a ≡ b
same_from_is_set n a b p q h = same_from_bits_below n a b p q (λ i lt. by (bit_at a i) (bit_at b i) (bit_at-lt a i) (bit_at-lt b i) (h i lt))
  where
    by : (x y : ℕ) → x < 2 → y < 2 → nat_eq x 1 ≡ nat_eq y 1 → x ≡ y
    by zero zero p q e = refl
    by zero (suc zero) p q e = absurd cc
    by (suc zero) zero p q e = absurd cc
    by (suc zero) (suc zero) p q e = refl
    by (suc (suc x)) y p q e = absurd (omega arith)
    by zero (suc (suc y)) p q e = absurd (omega arith)
    by (suc zero) (suc (suc y)) p q e = absurd (omega arith)

-- 64 * j + k as j words of 64 bits and k bits
in_words : (j k : ℕ) → 64 * j + k ≡ j * 2 ^ 6 + k
in_words j k = omega arith

-- a bit below the sixth of 64 * j + k is one of k, and one from the sixth on is one of j
pub is_set-within : (j k i : ℕ) → i < 6 → is_set (64 * j + k) i ≡ is_set k i
is_set-within j k i lt = ap (λ (n : ℕ). is_set n i) (in_words j k) ∙ is_set-low j 6 k i lt

pub is_set-across : (j k i : ℕ) → k < 64 → 6 ≤ i → is_set (64 * j + k) i ≡ is_set j (i - 6)
is_set-across j k i lt le = ap (λ (n : ℕ). is_set n i) (in_words j k) ∙ is_set-high j 6 k i lt le

-- a test that every number below n passes, by computing it at each
abbrev pub all_below : (ℕ → Bool) → ℕ → Bool
all_below test zero = true
all_below test (suc n) = test n && all_below test n

pub all_below-at : (test : ℕ → Bool) (n : ℕ) → all_below test n ≡ true → (k : ℕ) → k < n → test k ≡ true
all_below-at test zero all k lt = absurd (omega arith)
all_below-at test (suc n) all k lt =
    let both = and_parts (test n) (all_below test n) all in
    elim (cases_lt k n) [
      | inl less ↦ all_below-at test n both.1 k less
      | inr more ↦ let is : n ≡ k = omega arith in subst (λ (j : ℕ). test j ≡ true) is both.0
    ]

abbrev both_or_none : Bool → Bool → Bool
both_or_none true b = b
both_or_none false b = not b

agree : (a b : Bool) → both_or_none a b ≡ true → a ≡ b
agree true true e = refl
agree true false e = absurd cc
agree false true e = absurd cc
agree false false e = refl

-- masks of which each has at the places below 64 the bits that these have at the mask's number
pub is_set-mask : (masks : List ℕ) → all_below (λ i. all_below (λ k. both_or_none (is_set (slice_index_or masks i 0) k) (is_set k i)) 64) 6 ≡ true → (i j k : ℕ) → i < 6 → k < 64 → is_set (slice_index_or masks i 0) k ≡ is_set (64 * j + k) i
is_set-mask masks all i j k lt below =
    let mask = slice_index_or masks i 0 in
    agree (is_set mask k) (is_set k i) (all_below-at (λ k. both_or_none (is_set mask k) (is_set k i)) 64 (all_below-at (λ i. all_below (λ k. both_or_none (is_set (slice_index_or masks i 0) k) (is_set k i)) 64) 6 all i lt) k below)
    ∙ sym (is_set-within j k i lt)

-- the bits of a word are those of its number
pub word_of-same : (n a b : ℕ) → ((i : ℕ) → i < n → is_set a i ≡ is_set b i) → word_of n a ≡ word_of n b
word_of-same zero a b h = refl
word_of-same (suc n) a b h = λ t. h n (omega arith) t ∷ word_of-same n a b (λ i lt. h i (omega arith)) t

pub length-word_of : (n i : ℕ) → length (word_of n i) ≡ n
length-word_of zero i = refl
length-word_of (suc n) i = ap suc (length-word_of n i)

-- the words that begin with 0 have the lower numbers
pub word_of-low : (n i : ℕ) → i < 2 ^ n → word_of (suc n) i ≡ false ∷ word_of n i
word_of-low n i lt = ap (λ (b : Bool). b ∷ word_of n i) (is_set-past i n n lt (omega arith))

pub word_of-high : (n i : ℕ) → i < 2 ^ n → word_of (suc n) (2 ^ n + i) ≡ true ∷ word_of n i
word_of-high n i lt =
    let one : 2 ^ n + i ≡ 1 * 2 ^ n + i = omega arith in
    let zero_is : n - n ≡ 0 = omega arith in
    let first : is_set (2 ^ n + i) n ≡ true = ap (λ (m : ℕ). is_set m n) one ∙ is_set-high 1 n i n lt (omega arith) ∙ ap (is_set 1) zero_is in
    let rest : word_of n (2 ^ n + i) ≡ word_of n i = word_of-same n (2 ^ n + i) i (λ k k_lt. ap (λ (m : ℕ). is_set m k) one ∙ is_set-low 1 n i k k_lt) in
    λ t. first t ∷ rest t

-- the number of the word of a number is that number
pub word_number-word_of : (n i : ℕ) → i < 2 ^ n → word_number (word_of n i) ≡ i
word_number-word_of zero i lt = omega arith
word_number-word_of (suc n) i lt = elim (cases_lt i (2 ^ n)) [
  | inl low ↦ ap word_number (word_of-low n i low) ∙ word_number-word_of n i low
  | inr past ↦
      let rest : i - 2 ^ n < 2 ^ n = omega (arith, pow_suc n) in
      let is : i ≡ 2 ^ n + (i - 2 ^ n) = omega arith in
      let high = word_number-word_of n (i - 2 ^ n) rest in
      let long = ap (λ (k : ℕ). 2 ^ k) (length-word_of n (i - 2 ^ n)) in
      ap (λ (k : ℕ). word_number (word_of (suc n) k)) is
      ∙ ap word_number (word_of-high n (i - 2 ^ n) rest)
      ∙ omega (arith, high, long)
]

-- a bit of the word of a number, the first being the most significant
pub index-word_of : (n i p : ℕ) → p < n → slice_index_or (word_of n i) p false ≡ is_set i (n - 1 - p)
index-word_of zero i p lt = absurd (omega arith)
index-word_of (suc n) i zero lt = let e : n ≡ suc n - 1 - 0 = omega arith in ap (is_set i) e
index-word_of (suc n) i (suc p) lt = let e : n - 1 - p ≡ suc n - 1 - suc p = omega arith in index-word_of n i p (omega arith) ∙ ap (is_set i) e

-- the table of a function has at each number the function's value at the word of that number
pub index-table_of : (n : ℕ) (f : List Bool → Bool) (i : ℕ) → i < 2 ^ n → slice_index_or (table_of (words n) f) i false ≡ f (word_of n i)
index-table_of n f i lt =
    ap (λ (k : ℕ). slice_index_or (table_of (words n) f) k false) (sym (word_number-word_of n i lt))
    ∙ at_table n f (word_of n i) (length-word_of n i)

-- no number with a value, no word
pub find-nowhere : (n : ℕ) (f : ℕ → Bool) → ((j : ℕ) → j < 2 ^ n → f j ≡ false) → find (λ w. f (word_number w)) (words n) ≡ None
find-nowhere zero f none = ap (λ b. if b then Some [] else None) (none 0 (omega arith))
find-nowhere (suc n) f none =
    let left : find (λ w. f (word_number w)) (words n) ≡ None = find-nowhere n f (λ j lt. none j (omega (arith, pow_suc n))) in
    let right : find (λ w. f (word_number (true ∷ w))) (words n) ≡ None =
    find-same n (λ w. f (word_number (true ∷ w))) (λ w. f (2 ^ n + word_number w)) (λ w e. ap (λ (k : ℕ). f (2 ^ k + word_number w)) e)
    ∙ find-nowhere n (λ j. f (2 ^ n + j)) (λ j lt. none (2 ^ n + j) (omega (arith, pow_suc n))) in
    find-words n (λ w. f (word_number w))
    ∙ (λ t. option_or (option_map (λ w. false ∷ w) (left t)) (option_map (λ w. true ∷ w) (right t)))

-- the least number with a value is that of the least word
pub find-first : (n : ℕ) (f : ℕ → Bool) (i : ℕ) → i < 2 ^ n → f i ≡ true → ((j : ℕ) → j < i → f j ≡ false) → find (λ w. f (word_number w)) (words n) ≡ Some (word_of n i)
find-first zero f i lt is none = let e : i ≡ 0 = omega arith in ap (λ b. if b then Some [] else None) (ap f (sym e) ∙ is)
find-first (suc n) f i lt is none = elim (cases_lt i (2 ^ n)) [
  | inl low ↦
      find-words n (λ w. f (word_number w))
      ∙ ap (λ o. option_or (option_map (λ w. false ∷ w) o) (option_map (λ w. true ∷ w) (find (λ w. f (word_number (true ∷ w))) (words n)))) (find-first n f i low is none)
      ∙ ap Some (sym (word_of-low n i low))
  | inr past ↦
      let rest : i - 2 ^ n < 2 ^ n = omega (arith, pow_suc n) in
      let at : 2 ^ n + (i - 2 ^ n) ≡ i = omega arith in
      let left : find (λ w. f (word_number w)) (words n) ≡ None = find-nowhere n f (λ j j_lt. none j (omega arith)) in
      let right : find (λ w. f (word_number (true ∷ w))) (words n) ≡ Some (word_of n (i - 2 ^ n)) =
      find-same n (λ w. f (word_number (true ∷ w))) (λ w. f (2 ^ n + word_number w)) (λ w e. ap (λ (k : ℕ). f (2 ^ k + word_number w)) e)
      ∙ find-first n (λ j. f (2 ^ n + j)) (i - 2 ^ n) rest (ap f at ∙ is) (λ j j_lt. none (2 ^ n + j) (omega arith)) in
      find-words n (λ w. f (word_number w))
      ∙ (λ t. option_or (option_map (λ w. false ∷ w) (left t)) (option_map (λ w. true ∷ w) (right t)))
      ∙ ap Some (sym (word_of-high n (i - 2 ^ n) rest) ∙ ap (word_of (suc n)) at)
]

-- a number of n ones
pub is_set-ones : (n k : ℕ) → is_set (2 ^ n - 1) k ≡ nat_lt k n
is_set-ones n k = elim (cases_lt k n) [
  | inl lt ↦ ap (λ (b : ℕ). nat_eq b 1) (bit_at_ones n k lt) ∙ sym (lt-ltb k n lt)
  | inr ge ↦ ap (λ (b : ℕ). nat_eq b 1) (bit_at_ones_above n k ge) ∙ sym (le-ltb k n ge)
]

-- a bit of the complement of 64 bits
pub is_set-not : (n k : ℕ) → n < 2 ^ 64 → k < 64 → is_set (2 ^ 64 - 1 - n) k ≡ not (is_set n k)
is_set-not n k fits lt = ap (λ (b : ℕ). nat_eq b 1) (bit_at_not w64 n k fits lt) ∙ by (bit_at n k) (bit_at-lt n k)
  where
    by : (x : ℕ) → x < 2 → nat_eq (1 - x) 1 ≡ not (nat_eq x 1)
    by zero lt = refl
    by (suc zero) lt = refl
    by (suc (suc x)) lt = absurd (omega arith)
