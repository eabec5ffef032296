-- The rails of some bits by the number of the bit and the value that the rail stands for.
use Rattle.ncl_cell_roles.proofs.Terms.{All-from_members, AllPairs, AllPairs-cons, Bool, List, Member, Rails, [], arith, false, here, length, rail_at, rail_nets, rail_of, refl, suc, there, true, zero, ℕ, ◌<◌, ◌∙◌, ◌∷◌, ◌≡◌, ◌≢◌}

-- each of them is a rail net
pub rail-within : (bits : List Rails) (b : ℕ) (r : Bool) → b < length bits → Member (rail_at bits b r) (rail_nets bits)
rail-within [] b r lt = absurd (omega arith)
rail-within (x ∷ xs) zero true lt = there here
rail-within (x ∷ xs) zero false lt = here
rail-within (x ∷ xs) (suc b) r lt = there (there (rail-within xs b r (omega arith)))

-- and each rail net is one of them
pub rail-place : (bits : List Rails) (net : ℕ) → Member net (rail_nets bits) → (b : ℕ) × (r : Bool) × (b < length bits) × (net ≡ rail_at bits b r)
rail-place [] net m = elim m [ ]
rail-place (x ∷ xs) net here = (0, false, omega arith, refl)
rail-place (x ∷ xs) net (there here) = (0, true, omega arith, refl)
rail-place (x ∷ xs) net (there (there m)) = let (b, r, lt, e) = rail-place xs net m in (suc b, r, omega (arith, lt), e)

-- where a rail net tells its bit and its value, all rail nets differ
pub rails-differ : (bits : List Rails) → ((i j : ℕ) (r q : Bool) → i < length bits → j < length bits → rail_at bits i r ≡ rail_at bits j q → (i ≡ j) × (r ≡ q)) → AllPairs (λ x y. x ≢ y) (rail_nets bits)
rails-differ [] once = λ i j d before within. absurd (omega (arith, within))
rails-differ (x ∷ xs) once =
    AllPairs-cons (λ x y. x ≢ y) x.zero.0 (x.one.0 ∷ rail_nets xs)
    (All-from_members (λ y. x.zero.0 ≢ y) (x.one.0 ∷ rail_nets xs) zero_apart)
    (AllPairs-cons (λ x y. x ≢ y) x.one.0 (rail_nets xs)
    (All-from_members (λ y. x.one.0 ≢ y) (rail_nets xs) (λ y m. rest true y m))
    (rails-differ xs (λ i j r q li lj e. let (places, sides) = once (suc i) (suc j) r q (omega (arith, li)) (omega (arith, lj)) e in (omega (arith, places), sides))))
  where
    rest : (r : Bool) (y : ℕ) → Member y (rail_nets xs) → rail_of x r ≢ y
    rest r y m e =
        let (b, q, lt, at) = rail-place xs y m in
        let (places, sides) = once 0 (suc b) r q (omega arith) (omega (arith, lt)) (own r ∙ e ∙ at) in
        omega (arith, places)
      where
        own : (r : Bool) → rail_at (x ∷ xs) 0 r ≡ rail_of x r
        own r = refl

    zero_apart : (y : ℕ) → Member y (x.one.0 ∷ rail_nets xs) → x.zero.0 ≢ y
    zero_apart y here e = let (places, sides) = once 0 0 false true (omega arith) (omega arith) e in both_sides sides
      where
        both_sides : false ≡ true → ⊥
        both_sides s = absurd cc
    zero_apart y (there m) e = rest false y m e
