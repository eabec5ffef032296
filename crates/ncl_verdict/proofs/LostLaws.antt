-- The masks of the DATA of one output more, where they are parts of what is lost and where they aren't.
use Rattle.ncl_verdict.proofs.Terms.{Covers, List, [], ap, append-nil, arith, bit_or, both, cond, false, filter, filter-append, fold_push, fronts, get_or, is_part, length, lost_data, map, map-append, min, refl, subst, sum_by, sum_by_push, sym, take, take_more, true, union, weight_lost, weight_of, ℕ, ◌++◌, ◌+◌, ◌-◌, ◌<◌, ◌^◌, ◌∙◌, ◌∷◌, ◌≡◌}
use Rattle.ncl_verdict.proofs.Adding.{covers-more}

fronts-push : (xs : List ℕ) (x : ℕ) → fronts (xs ++ x ∷ []) ≡ fronts xs ++ (xs ++ x ∷ []) ∷ []
fronts-push [] x = refl
fronts-push (y ∷ ys) x =
    ap (λ l. (y ∷ []) ∷ map (λ front. y ∷ front) l) (fronts-push ys x)
    ∙ ap (λ l. (y ∷ []) ∷ l) (map-append (λ front. y ∷ front) (fronts ys) ((ys ++ x ∷ []) ∷ []))

lost-more : (masks : List ℕ) (lost : ℕ) (outputs : List (ℕ × ℕ)) (i : ℕ) (d : ℕ × ℕ) → i < length outputs → lost_data masks lost (take (i + 1) outputs) ≡ lost_data masks lost (take i outputs) ++ filter (λ shown. is_part shown lost) (both masks (get_or outputs i d) ∷ [])
lost-more masks lost outputs i d lt =
    ap (filter (λ shown. is_part shown lost)) (ap (map (both masks)) (take_more outputs i d lt) ∙ map-append (both masks) (take i outputs) (get_or outputs i d ∷ []))
    ∙ filter-append (λ shown. is_part shown lost) (map (both masks) (take i outputs)) (both masks (get_or outputs i d) ∷ [])

-- the output goes with what is lost
pub kept-more : (masks : List ℕ) (lost : ℕ) (outputs : List (ℕ × ℕ)) (i : ℕ) (d : ℕ × ℕ) → i < length outputs → is_part (both masks (get_or outputs i d)) lost ≡ true → lost_data masks lost (take (i + 1) outputs) ≡ lost_data masks lost (take i outputs) ++ both masks (get_or outputs i d) ∷ []
kept-more masks lost outputs i d lt part =
    lost-more masks lost outputs i d lt ∙ ap (λ b. lost_data masks lost (take i outputs) ++ cond b (both masks (get_or outputs i d) ∷ []) []) part

pub union-more : (masks : List ℕ) (shown : ℕ) → union (masks ++ shown ∷ []) ≡ bit_or (union masks) shown
union-more masks shown = fold_push bit_or 0 masks shown

weight-more : (lost : ℕ) (masks : List ℕ) (shown : ℕ) → weight_of lost + sum_by weight_of (masks ++ shown ∷ []) + sum_by (λ front. weight_of (union front)) (fronts (masks ++ shown ∷ [])) ≡ weight_of lost + sum_by weight_of masks + sum_by (λ front. weight_of (union front)) (fronts masks) + weight_of shown + weight_of (bit_or (union masks) shown)
weight-more lost masks shown =
    let last_own = sum_by_push weight_of masks shown in
    let all = ap (sum_by (λ front. weight_of (union front))) (fronts-push masks shown) ∙ sum_by_push (λ front. weight_of (union front)) (fronts masks) (masks ++ shown ∷ []) in
    let last = ap weight_of (union-more masks shown) in
    omega (arith, last_own, all, last)

pub kept-weight : (masks : List ℕ) (lost : ℕ) (outputs : List (ℕ × ℕ)) (i : ℕ) (d : ℕ × ℕ) → i < length outputs → is_part (both masks (get_or outputs i d)) lost ≡ true → (all sum first second part new : ℕ) → all ≡ union (lost_data masks lost (take i outputs)) → Covers (weight_lost masks (take i outputs) lost) sum
    → Covers (weight_of (both masks (get_or outputs i d))) first → part ≡ min (sum + first) (2 ^ 64 - 1) → Covers (weight_of (bit_or all (both masks (get_or outputs i d)))) second → new ≡ min (part + second) (2 ^ 64 - 1) → Covers (weight_lost masks (take (i + 1) outputs) lost) new
kept-weight masks lost outputs i d lt part_of all sum first second part new is covers own part_is whole new_is =
    let shown : ℕ = both masks (get_or outputs i d) in
    let before : List ℕ = lost_data masks lost (take i outputs) in
    let more : weight_lost masks (take (i + 1) outputs) lost ≡ weight_lost masks (take i outputs) lost + weight_of shown + weight_of (bit_or all shown) =
    ap (λ (l : List ℕ). weight_of lost + sum_by weight_of l + sum_by (λ front. weight_of (union front)) (fronts l)) (kept-more masks lost outputs i d lt part_of)
    ∙ weight-more lost before shown
    ∙ ap (λ n. weight_lost masks (take i outputs) lost + weight_of shown + weight_of (bit_or n shown)) (sym is) in
    subst (λ n. Covers n new) (sym more)
    (covers-more (weight_lost masks (take i outputs) lost + weight_of shown) (weight_of (bit_or all shown)) part second new
    (covers-more (weight_lost masks (take i outputs) lost) (weight_of shown) sum first part covers own part_is) whole new_is)

-- it doesn't
pub left-out : (masks : List ℕ) (lost : ℕ) (outputs : List (ℕ × ℕ)) (i : ℕ) (d : ℕ × ℕ) → i < length outputs → is_part (both masks (get_or outputs i d)) lost ≡ false → lost_data masks lost (take (i + 1) outputs) ≡ lost_data masks lost (take i outputs)
left-out masks lost outputs i d lt apart =
    lost-more masks lost outputs i d lt ∙ ap (λ b. lost_data masks lost (take i outputs) ++ cond b (both masks (get_or outputs i d) ∷ []) []) apart
    ∙ append-nil (lost_data masks lost (take i outputs))
