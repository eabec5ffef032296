-- Where the parts of a list stand in it, and numbers in a row.
use Rattle.ncl_compile.proofs.Terms.{List, Some, [], ap, arith, flat_map, length, map, range_with_len, refl, slice_get, slice_get-append_left, slice_get-append_right, suc, sym, zero, ℕ, ◌*◌, ◌++◌, ◌+◌, ◌∙◌, ◌∷◌, ◌≡◌}

-- the elements of a list stand in another from this place on
abbrev pub StandAt : {X : Type 0} → List X → ℕ → List X → Type 0
StandAt {X} whole first part = (i : ℕ) (x : X) → slice_get part i ≡ Some x → slice_get whole (first + i) ≡ Some x

-- a list stands in itself
pub StandAt-whole : {X : Type 0} (xs : List X) → StandAt xs 0 xs
StandAt-whole xs i x at = let place : 0 + i ≡ i = omega arith in ap (slice_get xs) place ∙ at

-- so do the two parts of a list that does
pub StandAt-left : {X : Type 0} (whole xs ys : List X) (first : ℕ) → StandAt whole first (xs ++ ys) → StandAt whole first xs
StandAt-left whole xs ys first stands i x at = stands i x (slice_get-append_left xs ys i x at)

pub StandAt-right : {X : Type 0} (whole xs ys : List X) (first : ℕ) → StandAt whole first (xs ++ ys) → StandAt whole (first + length xs) ys
StandAt-right whole xs ys first stands i x at =
    let place : first + length xs + i ≡ first + (length xs + i) = omega arith in
    ap (slice_get whole) place ∙ stands (length xs + i) x (slice_get-append_right xs ys i x at)

pub StandAt-head : {X : Type 0} (whole : List X) (x : X) (xs : List X) (first : ℕ) → StandAt whole first (x ∷ xs) → slice_get whole first ≡ Some x
StandAt-head whole x xs first stands = let place : first ≡ first + 0 = omega arith in ap (slice_get whole) place ∙ stands zero x refl

pub StandAt-tail : {X : Type 0} (whole : List X) (x : X) (xs : List X) (first : ℕ) → StandAt whole first (x ∷ xs) → StandAt whole (first + 1) xs
StandAt-tail whole x xs first stands i y at =
    let place : first + 1 + i ≡ first + suc i = omega arith in
    ap (slice_get whole) place ∙ stands (suc i) y at

-- numbers in a row, joined
pub range-append : (a m n : ℕ) → range_with_len a m ++ range_with_len (a + m) n ≡ range_with_len a (m + n)
range-append a zero n =
    let from : a + 0 ≡ a = omega arith in
    let count : 0 + n ≡ n = omega arith in
    ap (λ k. range_with_len k n) from ∙ ap (range_with_len a) (sym count)
range-append a (suc m) n =
    let from : a + suc m ≡ a + 1 + m = omega arith in
    let count : suc m + n ≡ suc (m + n) = omega arith in
    ap (λ k. a ∷ range_with_len (a + 1) m ++ range_with_len k n) from ∙ ap (λ l. a ∷ l) (range-append (a + 1) m n) ∙ ap (range_with_len a) (sym count)

-- two numbers for each
pub range-pairs : (base from count : ℕ) → flat_map (λ j. (base + 2 * j) ∷ (base + 2 * j + 1) ∷ []) (range_with_len from count) ≡ range_with_len (base + 2 * from) (2 * count)
range-pairs base from zero = refl
range-pairs base from (suc count) =
    let twice : 2 * suc count ≡ suc (suc (2 * count)) = omega arith in
    let next : base + 2 * (from + 1) ≡ base + 2 * from + 1 + 1 = omega arith in
    ap (λ l. (base + 2 * from) ∷ (base + 2 * from + 1) ∷ l) (range-pairs base (from + 1) count ∙ ap (λ k. range_with_len k (2 * count)) next)
    ∙ ap (range_with_len (base + 2 * from)) (sym twice)

pub map-range : (base from count : ℕ) → map (λ j. base + j) (range_with_len from count) ≡ range_with_len (base + from) count
map-range base from zero = refl
map-range base from (suc count) =
    let next : base + (from + 1) ≡ base + from + 1 = omega arith in
    ap (λ l. (base + from) ∷ l) (map-range base (from + 1) count ∙ ap (λ k. range_with_len k count) next)
