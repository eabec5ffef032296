-- The nets of a stage differ: a rail is no output of a cell, and two cells have two outputs.
use Rattle.ncl_faults.proofs.Terms.{AllPairs, Bool, List, Member, Member-append_right, Member-map, Rails, [], among, both_ways, eqb-true, false, here, inl, inr, map, member_cases, named_rails, nat_eq, or_cases, pairs-head, pairs-tail, rail_nets, rail_of, refl, subst, sym, there, true, ℕ, ◌++◌, ◌∷◌, ◌≡◌, ◌≢◌}

-- where all of two lists joined differ, nothing stands in both
pub parts-differ : {X : Type 0} (x : X) {xs : List X} (ys : List X) → AllPairs (λ a b. a ≢ b) (xs ++ ys) → Member x xs → Member x ys → ⊥
parts-differ x ys differ (here {xs = xs}) m = pairs-head (λ a b. a ≢ b) x (xs ++ ys) differ x (Member-append_right xs x m) refl
parts-differ x ys differ (there {y = y} {xs = xs} n) m = parts-differ x ys (pairs-tail (λ a b. a ≢ b) y (xs ++ ys) differ) n m

pub right-differ : {X : Type 0} (xs ys : List X) → AllPairs (λ a b. a ≢ b) (xs ++ ys) → AllPairs (λ a b. a ≢ b) ys
right-differ [] ys differ = differ
right-differ (x ∷ xs) ys differ = right-differ xs ys (pairs-tail (λ a b. a ≢ b) x (xs ++ ys) differ)

-- where the values of a function at a list differ, members with one value are one
pub same_from_value : {X Y : Type 0} (f : X → Y) (xs : List X) → AllPairs (λ a b. a ≢ b) (map f xs) → (x y : X) → Member x xs → Member y xs → f x ≡ f y → x ≡ y
same_from_value f [] differ x y m n e = elim m [ ]
same_from_value f (z ∷ xs) differ x y m n e =
    elim (member_cases x z xs m) [
      | inl zx ↦
          elim (member_cases y z xs n) [
            | inl zy ↦ cc
            | inr rest ↦ absurd (pairs-head (λ a b. a ≢ b) (f z) (map f xs) differ (f y) (Member-map f y rest) (let k : f z ≡ f y = cc in k))
          ]
      | inr some ↦
          elim (member_cases y z xs n) [
            | inl zy ↦ absurd (pairs-head (λ a b. a ≢ b) (f z) (map f xs) differ (f x) (Member-map f x some) (let k : f z ≡ f x = cc in k))
            | inr rest ↦ same_from_value f xs (pairs-tail (λ a b. a ≢ b) (f z) (map f xs) differ) x y some rest e
          ]
    ]

-- the rails that a word names are rails
pub named-within : (inputs : List Rails) (word : List Bool) (net : ℕ) → among (named_rails inputs word) net ≡ true → Member net (rail_nets inputs)
named-within [] word net high = absurd (both_ways false refl high)
named-within (r ∷ rs) [] net high = absurd (both_ways false refl high)
named-within (r ∷ rs) (b ∷ word) net high =
    elim (or_cases (nat_eq net (rail_of r b)) _ high) [
      | inl first ↦ own r b (eqb-true net (rail_of r b) first)
      | inr rest ↦ there (there (named-within rs word net rest))
    ]
  where
    own : (r : Rails) (b : Bool) → net ≡ rail_of r b → Member net (rail_nets (r ∷ rs))
    own r true e = subst (λ x. Member x (rail_nets (r ∷ rs))) (sym e) (there here)
    own r false e = subst (λ x. Member x (rail_nets (r ∷ rs))) (sym e) here
