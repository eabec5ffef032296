-- Numbers in a row.
use Rattle.ncl_demo.proofs.Terms.{All, Bool, Contains, IsDistinct, IsDistinct-from_apart, List, [], ap, append_assoc, arith, drop, false, get_or, get_or-drop, get_or-range_with_len, get_or-take, length, length-drop, length-range_with_len, length-take-le, map, map-range, nat_eq, ne_eqb, range_with_len, range_with_len-more, sym, take, ℕ, ◌++◌, ◌+◌, ◌<◌, ◌∙◌, ◌∷◌, ◌≡◌, ◌≤◌}

-- the numbers below one, and the next two
pub range_two : (n : ℕ) → range_with_len 0 n ++ n ∷ (n + 1) ∷ [] ≡ range_with_len 0 (n + 2)
range_two n =
    let two : n + 2 ≡ n + 1 + 1 = omega arith in
    let first : 0 + n ≡ n = omega arith in
    let second : 0 + (n + 1) ≡ n + 1 = omega arith in
    sym (
    ap (range_with_len 0) two
    ∙ range_with_len-more 0 (n + 1)
    ∙ ap (λ xs. xs ++ (0 + (n + 1)) ∷ []) (range_with_len-more 0 n)
    ∙ append_assoc (range_with_len 0 n) ((0 + n) ∷ []) ((0 + (n + 1)) ∷ [])
    ∙ ap (λ x. range_with_len 0 n ++ x ∷ (0 + (n + 1)) ∷ []) first
    ∙ ap (λ x. range_with_len 0 n ++ n ∷ x ∷ []) second
    )

-- a number below the end is among them
pub in_range : (n s : ℕ) → s < n → Contains (range_with_len 0 n) s
in_range n s below =
    let own : 0 + s ≡ s = omega arith in
    (s, omega (arith, length-range_with_len 0 n), get_or-range_with_len 0 n s s below ∙ own)

-- all of them are below a number that the end doesn't pass
pub range_below : (a n limit : ℕ) → a + n ≤ limit → All (λ s. s < limit) (range_with_len a n)
range_below a n limit within k d below =
    let inside : k < n = omega (arith, length-range_with_len a n) in
    omega (arith, get_or-range_with_len a n k d inside)

-- no number stands twice
pub range_distinct : (n : ℕ) → IsDistinct nat_eq (range_with_len 0 n)
range_distinct n = IsDistinct-from_apart nat_eq (range_with_len 0 n) (λ i j d lower within.
    let inside : j < n = omega (arith, length-range_with_len 0 n) in
    ne_eqb _ _ (λ same. omega (arith, get_or-range_with_len 0 n i d (omega arith), get_or-range_with_len 0 n j d inside)))

-- the bits of a part of a word, read one after another
pub map-part : (word : List Bool) (a n : ℕ) (bits : ℕ → Bool) → a + n ≤ length word → ((s : ℕ) → s < length word → bits s ≡ get_or word s false)
    → map bits (range_with_len a n) ≡ take n (drop a word)
map-part word a n bits within reads_it =
    let long : length (take n (drop a word)) ≡ n = length-take-le n (drop a word) (omega (arith, length-drop a word)) in
    ap (λ m. map bits (range_with_len a m)) (sym long)
    ∙ map-range (take n (drop a word)) a bits (λ k below.
    let inside : k < n = omega arith in
    reads_it (a + k) (omega arith) ∙ sym (get_or-drop a word k false) ∙ sym (get_or-take n (drop a word) k false inside))
