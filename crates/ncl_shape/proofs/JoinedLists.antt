-- Lists that are joined: where they are cut at an item, and what relates their elements.
use Rattle.std.proofs.Common.{◌≡◌, List, [], ◌∷◌, ◌++◌, ◌⊎◌, inl, inr, refl, sym, ap}

-- a list that is cut where two lists are joined
pub append_split : {X : Type 0} (xs ys before : List X) (x : X) (after : List X) → xs ++ ys ≡ before ++ x ∷ after → ((left : List X) × (xs ≡ before ++ x ∷ left)) ⊎ ((mid : List X) × (before ≡ xs ++ mid) × (ys ≡ mid ++ x ∷ after))
append_split [] ys before x after is = inr (before, refl, is)
append_split (y ∷ xs) ys [] x after is =
    let first : y ≡ x = cc in
    inl (xs, ap (λ z. z ∷ xs) first)
append_split (y ∷ xs) ys (z ∷ before) x after is =
    let first : y ≡ z = cc in
    let rest : xs ++ ys ≡ before ++ x ∷ after = cc in
    elim (append_split xs ys before x after rest) [
      | inl (left, cut) ↦ inl (left, (λ i. first i ∷ cut i))
      | inr (mid, front, back) ↦ inr (mid, (λ i. sym first i ∷ front i), back)
    ]
