-- The laws of codes: they are one to one, and their characters print.
use Rattle.ncl_vcd.proofs.Terms.{AllByRecursion, List, [], ap, arith, characters_left, identifier_code, refl, suc, sym, zero, ℕ, ◌*◌, ◌+◌, ◌-◌, ◌/◌, ◌∙◌, ◌∷◌, ◌≡◌, ◌≤◌}

-- the number of a code
number_in : List ℕ → ℕ
number_in [] = 0
number_in (c ∷ cs) = (c - 33) + 94 * number_in cs

characters_left-number : (m n : ℕ) → n ≤ m → number_in (characters_left m n) ≡ n
unfolding number_in
characters_left-number zero zero a = refl
characters_left-number (suc m) zero a = refl
characters_left-number zero (suc n) a = absurd (omega arith)
characters_left-number (suc m) (suc n) a =
    let less : suc n / 94 ≤ m = omega arith in
    let rest : number_in (characters_left m (suc n / 94)) ≡ suc n / 94 = characters_left-number m (suc n / 94) less in
    omega (arith, rest)

code-number : (n : ℕ) → number_in (identifier_code n) ≡ n
unfolding number_in
code-number n =
    let rest : number_in (characters_left n (n / 94)) ≡ n / 94 = characters_left-number n (n / 94) (omega arith) in
    omega (arith, rest)

-- two nets have two codes
pub code-injective : (m n : ℕ) → identifier_code m ≡ identifier_code n → m ≡ n
code-injective m n same = sym (code-number m) ∙ ap number_in same ∙ code-number n

pub characters_left-prints : (m n : ℕ) → AllByRecursion (λ c. (33 ≤ c) × (c ≤ 126)) (characters_left m n)
characters_left-prints m zero = by m
  where
    by : (m : ℕ) → AllByRecursion (λ c. (33 ≤ c) × (c ≤ 126)) (characters_left m zero)
    by zero = tt
    by (suc m) = tt
characters_left-prints zero (suc n) = tt
characters_left-prints (suc m) (suc n) = ((omega arith, omega arith), characters_left-prints m (suc n / 94))

pub code-prints : (n : ℕ) → AllByRecursion (λ c. (33 ≤ c) × (c ≤ 126)) (identifier_code n)
code-prints n = ((omega arith, omega arith), characters_left-prints n (n / 94))
