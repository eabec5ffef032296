-- What holds at the word of each number holds at each word.
use Rattle.ncl_decomp.proofs.Terms.{Bool, List, [], ap, arith, false, length, nat_eq, refl, subst, suc, take, true, word_of, zero, ℕ, ◌%◌, ◌*◌, ◌+◌, ◌/◌, ◌<◌, ◌^◌, ◌∷◌, ◌≡◌, ◌≤◌}

-- the words of n bits are those of the numbers below 2 ^ n
pub at_each_word : (n : ℕ) (P : List Bool → Type 0) → ((number : ℕ) → number < 2 ^ n → P (word_of n number)) → (word : List Bool) → length word ≡ n → P word
at_each_word zero P each [] wide = each 0 (omega arith)
at_each_word zero P each (bit ∷ word) wide = absurd (omega (arith, wide))
at_each_word (suc n) P each [] wide = absurd (omega (arith, wide))
at_each_word (suc n) P each (bit ∷ word) wide = at_each_word n (λ rest. P (bit ∷ rest)) (λ number below. by bit number below) word (omega (arith, wide))
  where
    by : (bit : Bool) (number : ℕ) → number < 2 ^ n → P (bit ∷ word_of n number)
    by true number below =
        let rest : (2 * number + 1) / 2 ≡ number = omega arith in
        let last : (2 * number + 1) % 2 ≡ 1 = omega arith in
        subst P (λ i. nat_eq (last i) 1 ∷ word_of n (rest i)) (each (2 * number + 1) (omega (arith, below)))
    by false number below =
        let rest : 2 * number / 2 ≡ number = omega arith in
        let last : 2 * number % 2 ≡ 0 = omega arith in
        subst P (λ i. nat_eq (last i) 1 ∷ word_of n (rest i)) (each (2 * number) (omega (arith, below)))

-- the first bits of a word of a number are a word of it
first_bits : (n m number : ℕ) → n ≤ m → take n (word_of m number) ≡ word_of n number
first_bits zero m number less = refl
first_bits (suc n) zero number less = absurd (omega (arith, less))
first_bits (suc n) (suc m) number less = ap (λ rest. nat_eq (number % 2) 1 ∷ rest) (first_bits n m (number / 2) (omega (arith, less)))

-- so are they where each is the first bits of a longer one
pub at_each_first : (n m : ℕ) (P : List Bool → Type 0) → n ≤ m → ((number : ℕ) → number < 2 ^ n → P (take n (word_of m number))) → (word : List Bool) → length word ≡ n → P word
at_each_first n m P less each = at_each_word n P (λ number below. subst P (first_bits n m number less) (each number below))
