-- The numbers of the nodes that are kept.
use Rattle.ncl_network.proofs.Terms.{Bool, List, Some, [], ap, arith, cases_eq, cases_lt, cond, count_by, count_by_more_no, count_by_more_yes, false, false≢true, get_or, get_or_append_left, get_or_past, get_or_push, is_kept, length, new_place, one-add, refl, select, slice_get, subst, suc, sum_by-cons, sum_by-take-le, sym, take, take-take, take_all, true, zero, zero-add, ℕ, ⊎_elim, ◌++◌, ◌+◌, ◌<◌, ◌∙◌, ◌∷◌, ◌≡◌, ◌≤◌}

module _ (kept : List Bool) where
  pub kept_within : (k : ℕ) → is_kept kept k ≡ true → k < length kept
  kept_within k e =
      ⊎_elim (λ within. within) (λ past. absurd (false≢true (sym (get_or_past kept k false past) ∙ e))) (cases_lt k (length kept))

  pub place-kept : (k : ℕ) → is_kept kept k ≡ true → new_place kept (k + 1) ≡ new_place kept k + 1
  place-kept k e = count_by_more_yes (λ b. b) kept k false (kept_within k e) e

  pub place-dropped : (k : ℕ) → k < length kept → is_kept kept k ≡ false → new_place kept (k + 1) ≡ new_place kept k
  place-dropped k within e = count_by_more_no (λ b. b) kept k false within e

  place-le : (a b : ℕ) → a ≤ b → new_place kept a ≤ new_place kept b
  place-le a b less =
      omega (arith, sum_by-take-le (λ (b : Bool). cond b 1 0) (take b kept) a, ap (count_by (λ (b : Bool). b)) (take-take a b kept less))

  -- what is kept has a lower number than what stands after it
  pub place-below : (k q : ℕ) → is_kept kept k ≡ true → k < q → new_place kept k < new_place kept q
  place-below k q e less = omega (arith, place-kept k e, place-le (k + 1) q (omega arith))

-- the numbers of the places so far, with one more
pub places_more : (kept : List Bool) (places new : List ℕ) (i next : ℕ) → length places ≡ i → next ≡ new_place kept i → new ≡ places ++ next ∷ [] → ((k : ℕ) → k < i → get_or places k 0 ≡ new_place kept k) → (k : ℕ) → k < i + 1 → get_or new k 0 ≡ new_place kept k
places_more kept places new i next count is more before k lt =
    ap (λ l. get_or l k 0) more
    ∙ ⊎_elim
    (λ same. get_or_push places next 0 k (count ∙ sym same) ∙ is ∙ ap (new_place kept) (sym same))
    (λ differs. let less : k < i = omega arith in get_or_append_left places (next ∷ []) 0 k (omega arith) ∙ before k less)
    (cases_eq k i)

place-cons : (b : Bool) (kept : List Bool) (k : ℕ) → new_place (b ∷ kept) (suc k) ≡ cond b 1 0 + new_place kept k
place-cons b kept k = sum_by-cons (λ b. cond b 1 0) b (take k kept)

-- what stands at a place that is kept stands at its number afterwards
pub slice_get-select : {X : Type 0} (kept : List Bool) (xs : List X) (k : ℕ) (x : X) → is_kept kept k ≡ true → slice_get xs k ≡ Some x → slice_get (select kept xs) (new_place kept k) ≡ Some x
slice_get-select [] xs k x e at = absurd cc
slice_get-select (b ∷ kept) [] k x e at = absurd cc
slice_get-select (false ∷ kept) (y ∷ ys) zero x e at = absurd cc
slice_get-select (true ∷ kept) (y ∷ ys) zero x e at = at
slice_get-select (true ∷ kept) (y ∷ ys) (suc k) x e at =
    subst (λ n. slice_get (y ∷ select kept ys) n ≡ Some x) (sym (place-cons true kept k ∙ one-add (new_place kept k))) (slice_get-select kept ys k x e at)
slice_get-select (false ∷ kept) (y ∷ ys) (suc k) x e at =
    subst (λ n. slice_get (select kept ys) n ≡ Some x) (sym (place-cons false kept k ∙ zero-add (new_place kept k))) (slice_get-select kept ys k x e at)

count : List Bool → ℕ
count kept = count_by (λ b. b) kept

count-cons : (b : Bool) (kept : List Bool) → count (b ∷ kept) ≡ cond b 1 0 + count kept
unfolding count
count-cons b kept = sum_by-cons (λ b. cond b 1 0) b kept

length-select-count : {X : Type 0} (kept : List Bool) (xs : List X) → length kept ≡ length xs → length (select kept xs) ≡ count kept
unfolding count
length-select-count [] xs same = refl
length-select-count (b ∷ kept) [] same = absurd (omega arith)
length-select-count (true ∷ kept) (x ∷ xs) same = omega (arith, count-cons true kept, length-select-count kept xs (omega arith))
length-select-count (false ∷ kept) (x ∷ xs) same = omega (arith, count-cons false kept, length-select-count kept xs (omega arith))

-- as many items are kept as the number after the last says
pub length-select-place : {X : Type 0} (kept : List Bool) (xs : List X) → length kept ≡ length xs → length (select kept xs) ≡ new_place kept (length kept)
unfolding count
length-select-place kept xs same =
    length-select-count kept xs same ∙ sym (ap (count_by (λ (b : Bool). b)) (take_all (length kept) kept (omega arith)))

place_of : (kept : List Bool) (n : ℕ) → n < count kept → (k : ℕ) × (is_kept kept k ≡ true) × (new_place kept k ≡ n)
unfolding count
place_of [] n below = absurd (omega arith)
place_of (true ∷ kept) zero below = (0, refl, refl)
place_of (true ∷ kept) (suc n) below =
    let (k, e, is) = place_of kept n (omega (arith, count-cons true kept)) in
    (suc k, e, place-cons true kept k ∙ one-add (new_place kept k) ∙ ap suc is)
place_of (false ∷ kept) n below =
    let (k, e, is) = place_of kept n (omega (arith, count-cons false kept)) in
    (suc k, e, place-cons false kept k ∙ zero-add (new_place kept k) ∙ is)

-- each number is that of a place that is kept
pub place_at : {X : Type 0} (kept : List Bool) (xs : List X) (n : ℕ) → length kept ≡ length xs → n < length (select kept xs) → (k : ℕ) × (is_kept kept k ≡ true) × (new_place kept k ≡ n)
place_at kept xs n same below = place_of kept n (omega (arith, length-select-count kept xs same))
