-- The fields of a text in two parts.
use Rattle.ncl_blif.proofs.Terms.{Bool, List, [], ap, append-nil, arith, cond, false, fields_of, filter, filter-append, is_blank, length, ltb, onto_first, refl, slice_split, true, ℕ, ◌++◌, ◌<◌, ◌∙◌, ◌∷◌, ◌≡◌}

-- a part put onto the first of some lists is put onto the first of the lists before more
onto_first-append : {X : Type 0} (x : X) (parts more : List (List X)) → 0 < length parts → onto_first x (parts ++ more) ≡ onto_first x parts ++ more
onto_first-append x [] more some = absurd (omega arith)
onto_first-append x (part ∷ parts) more some = refl

-- there is a part
pub split-some : {X : Type 0} (p : X → Bool) (xs : List X) → 0 < length (slice_split p xs)
split-some p [] = omega arith
split-some p (x ∷ xs) = elim (p x) as (λ b. 0 < length (cond b ([] ∷ slice_split p xs) (onto_first x (slice_split p xs)))) [ true ↦ omega arith | false ↦ onto-some x (slice_split p xs) ]
  where
    onto-some : {X : Type 0} (x : X) (parts : List (List X)) → 0 < length (onto_first x parts)
    onto-some x [] = omega arith
    onto-some x (part ∷ parts) = omega arith

-- the parts on both sides of an element that passes
pub split-append : {X : Type 0} (p : X → Bool) (xs : List X) (y : X) (ys : List X) → p y ≡ true → slice_split p (xs ++ y ∷ ys) ≡ slice_split p xs ++ slice_split p ys
split-append p [] y ys passes = rw passes
split-append p (x ∷ xs) y ys passes =
    rw (split-append p xs y ys passes)
    (elim (p x) as (λ b. cond b ([] ∷ (slice_split p xs ++ slice_split p ys)) (onto_first x (slice_split p xs ++ slice_split p ys)) ≡ cond b ([] ∷ slice_split p xs) (onto_first x (slice_split p xs)) ++ slice_split p ys)
    [ true ↦ refl | false ↦ onto_first-append x (slice_split p xs) (slice_split p ys) (split-some p xs) ])

-- the fields on both sides of a blank
pub fields_of-append : (a b : List ℕ) → fields_of (a ++ 32 ∷ b) ≡ fields_of a ++ fields_of b
fields_of-append a b = ap (filter (λ field. ltb 0 (length field))) (split-append is_blank a 32 b refl) ∙ filter-append _ (slice_split is_blank a) (slice_split is_blank b)

pub fields_of-end : (a : List ℕ) → fields_of (a ++ 32 ∷ []) ≡ fields_of a
fields_of-end a = fields_of-append a [] ∙ append-nil (fields_of a)
