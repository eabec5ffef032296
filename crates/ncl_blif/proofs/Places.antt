-- The place of the first of a list that passes a test.
use Rattle.ncl_blif.proofs.Terms.{Bool, List, None, Some, [], arith, cases_lt, cond, false, inl, inr, le-ltb, length, list_any, lt-ltb, ltb, ltb-false, not, option_or, position, position_from-push, position_from-zero, position_or_len, prefix_len-le-length, refl, suc, sym, true, zero-add, ℕ, ◌++◌, ◌+◌, ◌||◌, ◌∙◌, ◌∷◌, ◌≡◌, ◌≤◌}

pub place-none : {X : Type 0} (p : X → Bool) (xs : List X) → None ≡ position p xs → length xs ≡ position_or_len p xs
place-none p xs e =
    let most : position_or_len p xs ≤ length xs = prefix_len-le-length (λ x. not (p x)) xs in
    let least = ltb-false (position_or_len p xs) (length xs) (not_chosen (ltb (position_or_len p xs) (length xs)) (position_or_len p xs) e) in
    omega arith
  where
    not_chosen : (test : Bool) (k : ℕ) → None ≡ cond test (Some k) None → test ≡ false
    not_chosen true k e = absurd cc
    not_chosen false k e = refl

ltb-suc : (a b : ℕ) → ltb (1 + a) (suc b) ≡ ltb a b
ltb-suc a b = elim (cases_lt a b) [
  | inl lt ↦ lt-ltb (1 + a) (suc b) (omega arith) ∙ sym (lt-ltb a b lt)
  | inr le ↦ le-ltb (1 + a) (suc b) (omega arith) ∙ sym (le-ltb a b le)
]

-- whether one passes is whether the place is within the list
pub any-place : {X : Type 0} (p : X → Bool) (xs : List X) → list_any p xs ≡ ltb (position_or_len p xs) (length xs)
any-place p [] = refl
any-place p (x ∷ xs) = rw (any-place p xs) (either (p x))
  where
    either : (b : Bool) → (b || ltb (position_or_len p xs) (length xs)) ≡ ltb (cond (not b) (1 + position_or_len p xs) 0) (suc (length xs))
    either true = sym (lt-ltb 0 (suc (length xs)) (omega arith))
    either false = sym (ltb-suc (position_or_len p xs) (length xs))

-- the place with one more at the end
pub position-push : {X : Type 0} (p : X → Bool) (xs : List X) (x : X) → position p (xs ++ x ∷ []) ≡ option_or (position p xs) (cond (p x) (Some (length xs)) None)
position-push p xs x =
    position_from-zero p (xs ++ x ∷ []) ∙ position_from-push p 0 xs x
    ∙ (λ i. option_or (sym (position_from-zero p xs) i) (cond (p x) (Some (zero-add (length xs) i)) None))

-- the place in two lists one after the other
pub place-append : {X : Type 0} (p : X → Bool) (xs ys : List X) → position_or_len p (xs ++ ys) ≡ cond (ltb (position_or_len p xs) (length xs)) (position_or_len p xs) (length xs + position_or_len p ys)
place-append p [] ys = sym (zero-add (position_or_len p ys))
place-append p (x ∷ xs) ys = rw (place-append p xs ys) (either (p x))
  where
    within : (test : Bool) (a n b : ℕ) → 1 + cond test a (n + b) ≡ cond test (1 + a) (suc n + b)
    within true a n b = refl
    within false a n b = omega arith

    either : (b : Bool) → cond (not b) (1 + cond (ltb (position_or_len p xs) (length xs)) (position_or_len p xs) (length xs + position_or_len p ys)) 0 ≡ (let place = cond (not b) (1 + position_or_len p xs) 0 in cond (ltb place (suc (length xs))) place (suc (length xs) + position_or_len p ys))
    either true = rw (lt-ltb 0 (suc (length xs)) (omega arith))
    either false = rw (ltb-suc (position_or_len p xs) (length xs)) (within (ltb (position_or_len p xs) (length xs)) (position_or_len p xs) (length xs) (position_or_len p ys))
