-- The table of a function that looks at some bits alone is free of the others.
use Rattle.ncl_space.proofs.Terms.{Agree, Bool, List, LooksAt, [], and_from, ap, arith, common_steps, false, high_half, is_free, is_same, length, length-append, length-map, low_half, map, map-append, refl, suc, sym, table_of, true, width_of, words, zero, ℕ, ◌+◌, ◌^◌, ◌∙◌, ◌∷◌, ◌≡◌}
use Rattle.ncl_space.proofs.TableLaws.{low_half-append, high_half-append, map_after}

is_same-self : (t : List Bool) → is_same t t ≡ true
is_same-self [] = refl
is_same-self (true ∷ t) = is_same-self t
is_same-self (false ∷ t) = is_same-self t

pow_suc : (n : ℕ) → 2 ^ suc n ≡ 2 ^ n + 2 ^ n
pow_suc n = grind (arith, common_steps)

words-length : (n : ℕ) → length (words n) ≡ 2 ^ n
words-length zero = refl
words-length (suc n) =
    let a = length-append (map (λ word. false ∷ word) (words n)) (map (λ word. true ∷ word) (words n)) in
    let l = length-map (words n) (λ word. false ∷ word) in
    let h = length-map (words n) (λ word. true ∷ word) in
    let e = words-length n in
    omega (arith, pow_suc n)

-- the halves of a table of a function are those of the function after a first bit
low-table : (n : ℕ) (f : List Bool → Bool) → low_half n (table_of (words (suc n)) f) ≡ table_of (words n) (λ w. f (false ∷ w))
low-table n f =
    ap (low_half n) (map-append f (map (λ word. false ∷ word) (words n)) (map (λ word. true ∷ word) (words n)))
    ∙ low_half-append n (map f (map (λ word. false ∷ word) (words n))) (map f (map (λ word. true ∷ word) (words n)))
    (length-map (map (λ word. false ∷ word) (words n)) f ∙ length-map (words n) (λ word. false ∷ word) ∙ words-length n)
    ∙ map_after f false (words n)

high-table : (n : ℕ) (f : List Bool → Bool) → high_half n (table_of (words (suc n)) f) ≡ table_of (words n) (λ w. f (true ∷ w))
high-table n f =
    ap (high_half n) (map-append f (map (λ word. false ∷ word) (words n)) (map (λ word. true ∷ word) (words n)))
    ∙ high_half-append n (map f (map (λ word. false ∷ word) (words n))) (map f (map (λ word. true ∷ word) (words n)))
    (length-map (map (λ word. false ∷ word) (words n)) f ∙ length-map (words n) (λ word. false ∷ word) ∙ words-length n)
    ∙ map_after f true (words n)

agree-itself : (marks w : List Bool) → Agree marks w w
agree-itself [] w = refl
agree-itself (mark ∷ marks) [] = tt
agree-itself (true ∷ marks) (x ∷ w) = (refl, agree-itself marks w)
agree-itself (false ∷ marks) (x ∷ w) = agree-itself marks w

same-tables : (ws : List (List Bool)) (f g : List Bool → Bool) → ((w : List Bool) → f w ≡ g w) → map f ws ≡ map g ws
same-tables [] f g e = refl
same-tables (w ∷ ws) f g e = let first = e w in let rest = same-tables ws f g e in λ i. first i ∷ rest i

pub free : (marks : List Bool) (f : List Bool → Bool) → LooksAt marks f → is_free marks (table_of (words (width_of marks)) f) ≡ true
free [] f looks = refl
free (true ∷ marks) f looks =
    let n : ℕ = width_of marks in
    and_from _ _
    (ap (is_free marks) (low-table n f) ∙ free marks (λ w. f (false ∷ w)) (λ v w a. looks (false ∷ v) (false ∷ w) (refl, a)))
    (ap (is_free marks) (high-table n f) ∙ free marks (λ w. f (true ∷ w)) (λ v w a. looks (true ∷ v) (true ∷ w) (refl, a)))
free (false ∷ marks) f looks =
    let n : ℕ = width_of marks in
    let same : high_half n (table_of (words (suc n)) f) ≡ low_half n (table_of (words (suc n)) f) =
    high-table n f ∙ same-tables (words n) (λ w. f (true ∷ w)) (λ w. f (false ∷ w)) (λ w. looks (true ∷ w) (false ∷ w) (agree-itself marks w)) ∙ sym (low-table n f) in
    and_from _ _
    (ap (is_same (low_half n (table_of (words (suc n)) f))) same ∙ is_same-self (low_half n (table_of (words (suc n)) f)))
    (ap (is_free marks) (low-table n f) ∙ free marks (λ w. f (false ∷ w)) (λ v w a. looks (false ∷ v) (false ∷ w) a))
