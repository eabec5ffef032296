-- The nets that the acknowledge and tree cells of a bank drive, and that all nets of a bank differ.
use Rattle.ncl_bank.proofs.Terms.{AllPairs-append, Contains, Contains-from_Member, IsFreeOf, List, Member, Member-append_cases, [], arith, digits_36, here, inl, inr, length, length-append, length-map-range_with_len, map, member_cases, member_of_map, most_parts, names_of_nets, net_name_of, pairs-head, pairs-tail, range_with_len, same_net, subst, sym, there, ℕ, ◌++◌, ◌+◌, ◌-◌, ◌<◌, ◌∙◌, ◌∷◌, ◌≡◌, ◌≢◌, ◌≤◌, ◌⊎◌}
use Rattle.ncl_bank.proofs.Apart.{AreApart, pairs-range}

module _ (prefix root : List ℕ) (first count : ℕ) (some : 0 < count) where
  abbrev inner : List (List ℕ)
  inner = map (net_name_of prefix) (range_with_len first (count - 1))

  pub length-names_of_nets : length (names_of_nets prefix root first count) ≡ count
  length-names_of_nets =
      omega (arith, length-append inner (root ∷ []), length-map-range_with_len (net_name_of prefix) first (count - 1))

  -- each net is the root, or has a name that is made
  pub root_or_made : (name : List ℕ) → Member name (names_of_nets prefix root first count) → (name ≡ root) ⊎ ((k : ℕ) × (name ≡ net_name_of prefix k))
  root_or_made name m =
      elim (Member-append_cases name inner (root ∷ []) m) [
        | inl made ↦ let (k, n, is) = member_of_map (net_name_of prefix) (range_with_len first (count - 1)) name made in inr (k, sym is)
        | inr last ↦ elim (member_cases name root [] last) [ inl same ↦ inl (sym same) | inr none ↦ elim none [ ] ]
      ]

  -- the nets differ from one another and from those that are given, where these have no name that begins with the prefix
  pub nets_apart : (given : List (List ℕ)) → AreApart (root ∷ given) → IsFreeOf prefix (root ∷ given) → first + count ≤ most_parts → AreApart (given ++ names_of_nets prefix root first count)
  nets_apart given differ free few =
      let R : List ℕ → List ℕ → Type 0 = λ x y. x ≢ y in
      let made : AreApart inner = pairs-range R (net_name_of prefix) first (count - 1) (λ i j less below same. absurd (omega (arith, less, same_net prefix i j (omega arith) (omega arith) same))) in
      let nets : AreApart (names_of_nets prefix root first count) = AllPairs-append R inner (root ∷ []) made (λ i j d less within. absurd (omega arith)) (λ x y m n same. unmade root here x m (sym (last y n) ∙ sym same)) in
      AllPairs-append R given (names_of_nets prefix root first count) (pairs-tail R root given differ) nets (λ x y m n. between x m y n)
    where
      last : (y : List ℕ) → Member y (root ∷ []) → y ≡ root
      last y m = elim (member_cases y root [] m) [ inl same ↦ sym same | inr none ↦ elim none [ ] ]

      -- no name that is given is one that is made
      no_made : (x : List ℕ) → Member x (root ∷ given) → (k : ℕ) → x ≡ net_name_of prefix k → ⊥
      no_made x m k same = free (110 ∷ digits_36 6 k) (subst (Contains (root ∷ given)) same (Contains-from_Member x m))

      unmade : (x : List ℕ) → Member x (root ∷ given) → (y : List ℕ) → Member y inner → x ≡ y → ⊥
      unmade x m y n same = let (k, in_range, is) = member_of_map (net_name_of prefix) (range_with_len first (count - 1)) y n in no_made x m k (same ∙ sym is)

      between : (x : List ℕ) → Member x given → (y : List ℕ) → Member y (names_of_nets prefix root first count) → x ≢ y
      between x m y n same =
          elim (Member-append_cases y inner (root ∷ []) n) [
            | inl made ↦ unmade x (there m) y made same
            | inr is_root ↦ pairs-head (λ x y. x ≢ y) root given differ x m (sym (last y is_root) ∙ sym same)
          ]
