-- Names that stand twice.
use Rattle.ncl_blif.proofs.Terms.{Bool, List, [], bytes_eq, false, has_twins, list_any, list_any-append, nat_list_eq_equiv, refl, true, ℕ, ◌++◌, ◌||◌, ◌∷◌, ◌≡◌}

-- one more name in between: it stands twice where it is among the others
pub twins-middle : (front back : List (List ℕ)) (name : List ℕ) → has_twins (front ++ name ∷ back) ≡ (list_any (bytes_eq name) (front ++ back) || has_twins (front ++ back))
twins-middle [] back name = refl
twins-middle (x ∷ front) back name =
    rw (twins-middle front back name, list_any-append (bytes_eq x) front (name ∷ back), list_any-append (bytes_eq x) front back, nat_list_eq_equiv.symm x name)
    (turn (list_any (bytes_eq x) front) (bytes_eq name x) (list_any (bytes_eq x) back) (list_any (bytes_eq name) (front ++ back)) (has_twins (front ++ back)))
  where
    turn : (a b c d e : Bool) → ((a || (b || c)) || (d || e)) ≡ ((b || d) || ((a || c) || e))
    turn true true c d e = refl
    turn true false c true e = refl
    turn true false c false e = refl
    turn false true c d e = refl
    turn false false true true e = refl
    turn false false true false e = refl
    turn false false false true e = refl
    turn false false false false e = refl
