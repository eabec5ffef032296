-- Tests whether a table is one of some beads.
use Rattle.ncl_diagram.proofs.Terms.{Bool, List, ap, bool_cmp, eq_by_cmp, false, inl, inr, is_bead, list_any-append, refl, slice_cmp, true, ◌++◌, ◌||◌, ◌∙◌, ◌≡◌, ◌⊎◌}

-- of two lists in a row, in the one or in the other
pub any_append : (t : List Bool) (xs ys : List (List Bool)) → is_bead (xs ++ ys) t ≡ (is_bead xs t || is_bead ys t)
any_append t xs ys = list_any-append (eq_by_cmp (slice_cmp bool_cmp) t) xs ys

pub any_left : (t : List Bool) (xs ys : List (List Bool)) → is_bead xs t ≡ true → is_bead (xs ++ ys) t ≡ true
any_left t xs ys h = any_append t xs ys ∙ ap (λ b. b || is_bead ys t) h

pub any_right : (t : List Bool) (xs ys : List (List Bool)) → is_bead ys t ≡ true → is_bead (xs ++ ys) t ≡ true
any_right t xs ys h = any_append t xs ys ∙ ap (λ b. is_bead xs t || b) h ∙ or_true (is_bead xs t)
  where
    or_true : (a : Bool) → (a || true) ≡ true
    or_true true = refl
    or_true false = refl

-- where one of two tests holds
pub either : (a b : Bool) → (a || b) ≡ true → (a ≡ true) ⊎ (b ≡ true)
either true b e = inl refl
either false b e = inr e
