-- What stands at the places of lists that are put together, grow at their end, or have a function applied to them.
use Rattle.ncl_base.proofs.Terms.{AllZip, List, None, Option, Some, [], ap, arith, get_or, inl, inr, length, map, option_map, refl, same_Some, slice_get, slice_get-get_or, slice_get-map, subst, suc, sym, zero, ℕ, ◌++◌, ◌+◌, ◌<◌, ◌∙◌, ◌∷◌, ◌≡◌, ◌⊎◌}

-- in the first or the second of two lists that are put together
pub slice_get-append_left : {X : Type 0} (xs ys : List X) (k : ℕ) (x : X) → slice_get xs k ≡ Some x → slice_get (xs ++ ys) k ≡ Some x
slice_get-append_left [] ys k x at = absurd cc
slice_get-append_left (z ∷ xs) ys zero x at = at
slice_get-append_left (z ∷ xs) ys (suc k) x at = slice_get-append_left xs ys k x at

pub slice_get-append_right : {X : Type 0} (xs ys : List X) (k : ℕ) (x : X) → slice_get ys k ≡ Some x → slice_get (xs ++ ys) (length xs + k) ≡ Some x
slice_get-append_right [] ys k x at = subst (λ n. slice_get ys n ≡ Some x) (let same : k ≡ 0 + k = omega arith in same) at
slice_get-append_right (z ∷ xs) ys k x at =
    subst (λ n. slice_get (z ∷ xs ++ ys) n ≡ Some x) (let same : suc (length xs + k) ≡ suc (length xs) + k = omega arith in same) (slice_get-append_right xs ys k x at)

-- what stands at a place stays there as the list grows, and what is added stands at the end
pub slice_get-kept : {X : Type 0} (xs : List X) (y : X) (k : ℕ) (x : X) → slice_get xs k ≡ Some x → slice_get (xs ++ y ∷ []) k ≡ Some x
slice_get-kept xs y k x at = slice_get-append_left xs (y ∷ []) k x at

pub slice_get-end : {X : Type 0} (xs : List X) (y : X) (k : ℕ) → k ≡ length xs → slice_get (xs ++ y ∷ []) k ≡ Some y
slice_get-end [] y zero whole = refl
slice_get-end [] y (suc k) whole = absurd (omega arith)
slice_get-end (z ∷ xs) y zero whole = absurd (omega arith)
slice_get-end (z ∷ xs) y (suc k) whole = slice_get-end xs y k (omega arith)

-- and what stands at a place of the longer list stood there, or was added
pub push_cases : {X : Type 0} (xs : List X) (y : X) (k : ℕ) (x : X) → slice_get (xs ++ y ∷ []) k ≡ Some x → (slice_get xs k ≡ Some x) ⊎ ((k ≡ length xs) × (y ≡ x))
push_cases [] y zero x at = let same : y ≡ x = cc in inr (refl, same)
push_cases [] y (suc k) x at = absurd cc
push_cases (z ∷ xs) y zero x at = inl at
push_cases (z ∷ xs) y (suc k) x at =
    elim (push_cases xs y k x at) [
      | inl earlier ↦ inl earlier
      | inr (place, same) ↦ inr (ap suc place, same)
    ]

pub pushed_last : {X : Type 0} (xs : List X) (y x : X) → slice_get (xs ++ y ∷ []) (length xs) ≡ Some x → y ≡ x
pushed_last [] y x at = same_Some y x at
pushed_last (z ∷ xs) y x at = pushed_last xs y x at

-- a list divides at each place
pub divided_at : {X : Type 0} (xs : List X) (k : ℕ) (x : X) → slice_get xs k ≡ Some x → (before : List X) × (after : List X) × (xs ≡ before ++ x ∷ after)
divided_at [] k x at = absurd cc
divided_at (y ∷ xs) zero x at = let same : y ≡ x = cc in ([], xs, ap (λ z. z ∷ xs) same)
divided_at (y ∷ xs) (suc k) x at = let (before, after, whole) = divided_at xs k x at in (y ∷ before, after, ap (λ l. y ∷ l) whole)

-- what stands at a place of a list that a function was applied to
pub at_map : {X Y : Type 0} (f : X → Y) (xs : List X) (k : ℕ) (x : X) → slice_get xs k ≡ Some x → slice_get (map f xs) k ≡ Some (f x)
at_map f xs k x at = slice_get-map f xs k ∙ ap (option_map f) at

pub at_of_map : {X Y : Type 0} (f : X → Y) (xs : List X) (k : ℕ) (y : Y) → slice_get (map f xs) k ≡ Some y → (x : X) × (slice_get xs k ≡ Some x) × (f x ≡ y)
at_of_map f [] k y at = absurd cc
at_of_map f (x ∷ xs) zero y at = let same : f x ≡ y = cc in (x, refl, same)
at_of_map f (x ∷ xs) (suc k) y at = at_of_map f xs k y at

-- what goes with what stands at a place of the second of two lists that go together
pub AllZip-back : {X Y : Type 0} (R : X → Y → Type 0) (xs : List X) (ys : List Y) → AllZip R xs ys → (k : ℕ) (y : Y) → slice_get ys k ≡ Some y → (x : X) × (slice_get xs k ≡ Some x) × R x y
AllZip-back R xs [] zip k y at = absurd cc
AllZip-back R [] (z ∷ ys) zip k y at = absurd zip
AllZip-back R (x ∷ xs) (z ∷ ys) zip zero y at = let same : z ≡ y = cc in (x, refl, subst (R x) same zip.0)
AllZip-back R (x ∷ xs) (z ∷ ys) zip (suc k) y at = AllZip-back R xs ys zip.1 k y at

-- what is read at a place of a list
pub place_read : {X : Type 0} (all listed : List X) (k : ℕ) (x : X) → listed ≡ all → x ≡ get_or listed k x → k < length all → slice_get all k ≡ Some x
place_read all listed k x same is lt = slice_get-get_or all k x lt ∙ ap (λ xs. Some (get_or xs k x)) (sym same) ∙ ap Some (sym is)

-- an entry that is none
pub no_entry : {X : Type 0} (entry : Option X) → ((x : X) → entry ≡ Some x → ⊥) → entry ≡ None
no_entry None none = refl
no_entry (Some x) none = absurd (none x refl)
