-- Lists whose elements differ, joined.
use Rattle.ncl_bank.proofs.Terms.{AllDiffer, AllPairs, AllPairs-from_IsDistinct, IsDistinct-from_AllPairs, List, [], arith, bytes_decides, get_or, get_or-map-range_with_len, length-map-range_with_len, map, pairs-tail, range_with_len, refl, subst, sym, ℕ, ◌++◌, ◌+◌, ◌<◌, ◌∷◌, ◌≢◌}

-- names that differ, two by two
abbrev pub AreApart : List (List ℕ) → Type 0
AreApart names = AllPairs (λ x y. x ≢ y) names

pub apart_from_differ : (names : List (List ℕ)) → AllDiffer names → AreApart names
apart_from_differ = AllPairs-from_IsDistinct bytes_decides

pub differ_from_apart : (names : List (List ℕ)) → AreApart names → AllDiffer names
differ_from_apart = IsDistinct-from_AllPairs bytes_decides

-- of what a function gives at some numbers
pub pairs-range : {X : Type 0} (R : X → X → Type 0) (f : ℕ → X) (first count : ℕ) → ((i j : ℕ) → i < j → j < first + count → R (f i) (f j)) → AllPairs R (map f (range_with_len first count))
pairs-range R f first count differ i j d before within =
    let inside : j < count = omega (arith, length-map-range_with_len f first count) in
    let lower : i < count = omega arith in
    subst (λ x. R x (get_or (map f (range_with_len first count)) j d)) (sym (get_or-map-range_with_len f first count i (first + i) d lower refl))
    (subst (λ y. R (f (first + i)) y) (sym (get_or-map-range_with_len f first count j (first + j) d inside refl))
    (differ (first + i) (first + j) (omega arith) (omega arith)))

-- of the second of two lists joined
pub pairs-right : {X : Type 0} (R : X → X → Type 0) (xs ys : List X) → AllPairs R (xs ++ ys) → AllPairs R ys
pairs-right R [] ys pairs = pairs
pairs-right R (x ∷ xs) ys pairs = pairs-right R xs ys (pairs-tail R x (xs ++ ys) pairs)
