-- Tests of some element of a list.
use Rattle.ncl_blif.proofs.Terms.{Bool, List, None, Some, [], ap, arith, cond, false, find, get_or, length, list_any, map, or_parts, refl, suc, true, zero, ℕ, ◌<◌, ◌||◌, ◌∷◌, ◌≡◌}

pub list_any-map : {X Y : Type 0} (test : Y → Bool) (f : X → Y) (xs : List X) → list_any test (map f xs) ≡ list_any (λ x. test (f x)) xs
list_any-map test f [] = refl
list_any-map test f (x ∷ xs) = ap (λ b. test (f x) || b) (list_any-map test f xs)

-- where no element passes, each fails
pub each_fails : {X : Type 0} (test : X → Bool) (xs : List X) → list_any test xs ≡ false → (k : ℕ) (d : X) → k < length xs → test (get_or xs k d) ≡ false
each_fails test [] h k d within = absurd (omega arith)
each_fails test (x ∷ xs) h zero d within = (or_parts (test x) (list_any test xs) h).0
each_fails test (x ∷ xs) h (suc k) d within = each_fails test xs (or_parts (test x) (list_any test xs) h).1 k d (omega arith)

at_place : {X : Type 0} (test : X → Bool) (x : X) (xs : List X) (k : ℕ) (d : X) → test x ≡ false
    → ((j : ℕ) (e : X) → j < length xs → test (get_or xs j e) ≡ false) → k < length (x ∷ xs) → test (get_or (x ∷ xs) k d) ≡ false
at_place test x xs zero d fails rest within = fails
at_place test x xs (suc k) d fails rest within = rest k d (omega arith)

-- where nothing is found, each fails
pub find-none : {X : Type 0} (test : X → Bool) (xs : List X) → find test xs ≡ None → (k : ℕ) (d : X) → k < length xs → test (get_or xs k d) ≡ false
find-none test [] h k d within = absurd (omega arith)
find-none {X} test (x ∷ xs) h k d within =
    elim (test x) as (λ b. test x ≡ b → cond b (Some x) (find test xs) ≡ None → test (get_or (x ∷ xs) k d) ≡ false) [
      | true ↦ λ passes found. absurd cc
      | false ↦ λ fails rest. at_place test x xs k d fails (find-none test xs rest) within
    ] refl h
