-- Tests over lists.
use Rattle.ncl_gates.proofs.Terms.{Bool, List, Some, [], and_from, and_parts, cond, false, find, inl, inr, list_all, list_any, or_cases, or_left, or_right, refl, subst, true, ◌∷◌, ◌≡◌}

-- where each element that passes p passes q, a list that passes p does
pub list_all_more : {X : Type 0} (p q : X → Bool) → ((x : X) → p x ≡ true → q x ≡ true) → (xs : List X) → list_all p xs ≡ true → list_all q xs ≡ true
list_all_more p q more [] e = e
list_all_more p q more (x ∷ xs) e = let (here, rest) = and_parts (p x) (list_all p xs) e in and_from _ _ (more x here) (list_all_more p q more xs rest)

-- the same of some element
pub list_any_more : {X : Type 0} (p q : X → Bool) → ((x : X) → p x ≡ true → q x ≡ true) → (xs : List X) → list_any p xs ≡ true → list_any q xs ≡ true
list_any_more p q more [] e = e
list_any_more p q more (x ∷ xs) e =
    elim (or_cases (p x) (list_any p xs) e) [
      | inl here ↦ or_left (q x) _ (more x here)
      | inr rest ↦ or_right (q x) _ (list_any_more p q more xs rest)
    ]

-- what is found among elements that all pass a test passes it
pub find_passes : {X : Type 0} (p test : X → Bool) (xs : List X) (x : X) → list_all test xs ≡ true → find p xs ≡ Some x → test x ≡ true
find_passes p test [] x all found = absurd cc
find_passes p test (y ∷ ys) x all found = let (here, rest) = and_parts (test y) (list_all test ys) all in by_first (p y) here (find_passes p test ys x rest) found
  where
    by_first : (b : Bool) → test y ≡ true → (find p ys ≡ Some x → test x ≡ true) → cond b (Some y) (find p ys) ≡ Some x → test x ≡ true
    by_first true here later found = let same : y ≡ x = cc in subst (λ z. test z ≡ true) same here
    by_first false here later found = later found

-- what is found passes the test that it is found by
pub find_itself : {X : Type 0} (p : X → Bool) (xs : List X) (x : X) → find p xs ≡ Some x → p x ≡ true
find_itself p [] x found = absurd cc
find_itself p (y ∷ ys) x found = by_first (p y) refl (find_itself p ys x) found
  where
    by_first : (b : Bool) → p y ≡ b → (find p ys ≡ Some x → p x ≡ true) → cond b (Some y) (find p ys) ≡ Some x → p x ≡ true
    by_first true here later found = let same : y ≡ x = cc in subst (λ z. p z ≡ true) same here
    by_first false here later found = later found
