-- The fields of a line, by the last of them.
use Rattle.ncl_blif.proofs.Terms.{List, None, Option, Some, [], arith, front_fields, last_field, last_or, length, length-append, refl, take-append-le, take_all, ℕ, ◌++◌, ◌-◌, ◌∷◌, ◌≡◌, ◌≤◌}

last_or-end : {X : Type 0} (before : Option X) (xs : List X) (x : X) → last_or before (xs ++ x ∷ []) ≡ Some x
last_or-end before [] x = refl
last_or-end before (y ∷ ys) x = last_or-end (Some y) ys x

-- the last field, and those before it
pub last_field-end : (front : List (List ℕ)) (last : List ℕ) → last_field (front ++ last ∷ []) ≡ last
last_field-end front last = rw (last_or-end None front last)

pub front_fields-end : (front : List (List ℕ)) (last : List ℕ) → front_fields (front ++ last ∷ []) ≡ front
front_fields-end front last =
    let count : length (front ++ last ∷ []) - 1 ≡ length front = omega (arith, length-append front (last ∷ [])) in
    let all : length front ≤ length front = omega arith in
    rw (count, take-append-le (length front) front (last ∷ []) all, take_all)
