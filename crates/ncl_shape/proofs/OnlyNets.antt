-- The only net of which something holds, and the only net that stands in a relation to each bank, found net by net.
use Rattle.ncl_shape.proofs.Terms.{AreOnly, Bool, HasMore, HasOne, IsOnly, IsOnlyOf, List, MatchOption, NetId, NetlistData, None, Option, Some, ap, arith, both_ways, cases_eq, cases_lt, cond, drop, false, get_or-replicate, get_or-set_other, get_or-set_same, inl, inr, is_some, length, length-replicate, length-set, net_at, refl, replicate, set, subst, sym, take, take_at, true, ℕ, ◌++◌, ◌+◌, ◌<◌, ◌∙◌, ◌≡◌, ◌≤◌}

-- of the nets below a limit the only one of which P holds
pub record IsOnlyBelow (P : ℕ → Type 0) (limit : ℕ) (net : NetId) : Type 0 where
  pub below : net.0 < limit
  pub holds : P net.0
  pub only : (other : ℕ) → other < limit → P other → other ≡ net.0

-- or that there is none
abbrev pub IsOneBelow : (ℕ → Type 0) → ℕ → Option NetId → Type 0
IsOneBelow P limit None = (net : ℕ) → net < limit → P net → ⊥
IsOneBelow P limit (Some net) = IsOnlyBelow P limit net

module _ (P : ℕ → Type 0) where
  pub none_below : IsOneBelow P 0 None
  none_below net lt holds = absurd (omega (arith, lt))

  -- a net of which P doesn't hold changes nothing
  pub one_pass : (i : ℕ) (found : Option NetId) → IsOneBelow P i found → (P i → ⊥) → IsOneBelow P (i + 1) found
  one_pass i None so_far fails = λ net lt holds.
      elim (cases_lt net i) [
        | inl less ↦ so_far net less holds
        | inr most ↦ let same : net ≡ i = omega (arith, lt, most) in fails (subst P same holds)
      ]
  one_pass i (Some net) so_far fails = record {
    below = let less = so_far.below in omega (arith, less);
    holds = so_far.holds;
    only = λ other lt holds. elim (cases_lt other i) [
      | inl less ↦ so_far.only other less holds
      | inr most ↦ let same : other ≡ i = omega (arith, lt, most) in absurd (fails (subst P same holds))
    ];
  }

  -- the first net of which it holds
  pub one_first : (i : ℕ) (found : Option NetId) (net : NetId) → is_some found ≡ false → net.0 ≡ i → IsOneBelow P i found → P net.0 → IsOneBelow P (i + 1) (Some net)
  one_first i None net none is so_far holds = record {
    below = omega (arith, is);
    holds = holds;
    only = λ other lt also. elim (cases_lt other i) [
      | inl less ↦ absurd (so_far other less also)
      | inr most ↦ omega (arith, lt, most, is)
    ];
  }
  one_first i (Some other) net none is so_far holds = absurd (both_ways true none refl)

  -- the next net, as it is put down if P holds of it, which is the first
  pub one_kept : (i : ℕ) (found new : Option NetId) (net : NetId) (holds : Bool) → net.0 ≡ i → IsOneBelow P i found → (holds ≡ true → P net.0) → (P net.0 → holds ≡ true)
      → new ≡ cond holds (Some net) found → (holds ≡ true → found ≡ None) → IsOneBelow P (i + 1) new
  one_kept i found new net true is so_far to from kept free = subst (IsOneBelow P (i + 1)) (sym kept) (one_first i found net (ap is_some (free refl)) is so_far (to refl))
  one_kept i found new net false is so_far to from kept free =
      subst (IsOneBelow P (i + 1)) (sym kept) (one_pass i found so_far (λ holds. both_ways false refl (from (subst P (sym is) holds))))

  -- a second one
  pub one_second : (i : ℕ) (found : Option NetId) (net other : NetId) → found ≡ Some other → net.0 ≡ i → IsOneBelow P i found → P other.0 × (other.0 ≡ net.0 → ⊥)
  one_second i None net other some is so_far = absurd cc
  one_second i (Some first) net other some is so_far =
      let same : first ≡ other = cc in
      let less : first.0 < i = so_far.below in
      let numbers : first.0 ≡ other.0 = ap (λ (x : NetId). x.0) same in
      (subst P numbers so_far.holds, λ e. omega (arith, less, numbers, e, is))

  -- two nets are not one
  pub not_one : (i j : ℕ) → P i → P j → (i ≡ j → ⊥) → HasOne P → ⊥
  not_one i j holds also differ one = differ (one.only i holds ∙ sym (one.only j also))

  -- where one was found, another makes two
  pub one_taken : (i : ℕ) (found : Option NetId) → is_some found ≡ true → IsOneBelow P i found → P i → HasOne P → ⊥
  one_taken i None some so_far holds one = both_ways false refl some
  one_taken i (Some net) some so_far holds one =
      let less : net.0 < i = so_far.below in
      not_one net.0 i so_far.holds holds (λ e. omega (arith, less, e)) one

  -- after all nets there is one, or none
  pub one_whole : (limit : ℕ) (found : Option NetId) → ((net : ℕ) → P net → net < limit) → IsOneBelow P limit found → MatchOption found (HasOne P → ⊥) (λ net. IsOnly P net.0)
  one_whole limit None inside so_far = λ one. so_far one.one (inside one.one one.is) one.is
  one_whole limit (Some net) inside so_far = (record { one = net.0; is = so_far.holds; only = λ other holds. so_far.only other (inside other holds) holds }, refl)

-- for each bank the only net below a limit in the relation to it
pub record AreOnlyBelow (n : NetlistData) (R : ℕ → ℕ → Type 0) (limit : ℕ) (table : List (Option NetId)) : Type 0 where
  pub sized : length table ≡ length n.nets
  pub each : (bank : ℕ) → bank < length n.nets → IsOneBelow (R bank) limit (net_at table bank)

module _ (n : NetlistData) (R : ℕ → ℕ → Type 0) where
  pub only_begin : (table : List (Option NetId)) → table ≡ replicate (length n.nets) None → AreOnlyBelow n R 0 table
  only_begin table none = record {
    sized = ap length none ∙ length-replicate (length n.nets) None;
    each = λ bank lt. subst (IsOneBelow (R bank) 0) (sym (ap (λ l. net_at l bank) none ∙ get_or-replicate (length n.nets) bank None None lt)) (none_below (R bank));
  }

  -- a net that is in the relation to no bank
  pub only_pass : (i : ℕ) (table : List (Option NetId)) → AreOnlyBelow n R i table → ((bank : ℕ) → R bank i → ⊥) → AreOnlyBelow n R (i + 1) table
  only_pass i table so_far none = record {
    sized = so_far.sized;
    each = λ bank lt. one_pass (R bank) i (net_at table bank) (so_far.each bank lt) (none bank);
  }

  -- the first net of a bank
  pub only_put : (i : ℕ) (table : List (Option NetId)) (bank : ℕ) (net : NetId) → AreOnlyBelow n R i table → net.0 ≡ i → bank < length n.nets → net_at table bank ≡ None
      → R bank net.0 → ((other : ℕ) → R other net.0 → other ≡ bank) → AreOnlyBelow n R (i + 1) (set table bank (Some net))
  only_put i table bank net so_far is inside free holds only = record {
    sized = length-set table bank (Some net) ∙ so_far.sized;
    each = λ other lt.
        let sized = so_far.sized in
        elim (cases_eq other bank) [
          | inl same ↦
              let here : net_at (set table bank (Some net)) other ≡ Some net = ap (net_at (set table bank (Some net))) same ∙ get_or-set_same table bank (Some net) None (omega (arith, inside, sized)) in
              subst (IsOneBelow (R other) (i + 1)) (sym here)
              (one_first (R other) i (net_at table other) net (ap (λ b. is_some (net_at table b)) same ∙ ap is_some free) is (so_far.each other lt) (subst (λ b. R b net.0) (sym same) holds))
          | inr differ ↦
              subst (IsOneBelow (R other) (i + 1)) (sym (get_or-set_other table bank other (Some net) None differ))
              (one_pass (R other) i (net_at table other) (so_far.each other lt) (λ also. differ (only other (subst (R other) (sym is) also))))
        ];
  }

  -- as it is put down through a part of a list that is as long as the list
  pub only_put_back : (i : ℕ) (table old new : List (Option NetId)) (long : ℕ) (bank : ℕ) (net : NetId) → AreOnlyBelow n R i table → old ≡ table → length old ≡ long → new ≡ set old bank (Some net) → net.0 ≡ i → bank < length n.nets → net_at old bank ≡ None
      → R bank net.0 → ((other : ℕ) → R other net.0 → other ≡ bank) → AreOnlyBelow n R (i + 1) (take long (new ++ drop (length new) table))
  only_put_back i table old new long bank net so_far same sized put is inside free holds only =
      let back = take_at new (drop (length new) table) long (ap length put ∙ length-set old bank (Some net) ∙ sized) in
      subst (AreOnlyBelow n R (i + 1)) (sym (back ∙ put)) (only_put i old bank net (subst (AreOnlyBelow n R i) (sym same) so_far) is inside free holds only)

  -- a bank with a second net
  pub only_second : (i : ℕ) (table : List (Option NetId)) (bank : ℕ) (net other : NetId) → AreOnlyBelow n R i table → net.0 ≡ i → bank < length n.nets → net_at table bank ≡ Some other → R bank net.0 → HasMore R
  only_second i table bank net other so_far is inside taken holds =
      let (first, differ) = one_second (R bank) i (net_at table bank) net other taken is (so_far.each bank inside) in
      (bank, other.0, net.0, first, holds, differ)

  -- after all nets
  pub only_whole : (i : ℕ) (table : List (Option NetId)) → length n.nets ≤ i → ((bank net : ℕ) → R bank net → net < length n.nets) → AreOnlyBelow n R i table → AreOnly n R table
  only_whole i table all within so_far = record {
    sized = so_far.sized;
    each = λ bank lt. whole bank (net_at table bank) (so_far.each bank lt);
  }
    where
      whole : (bank : ℕ) (found : Option NetId) → IsOneBelow (R bank) i found → IsOnlyOf R bank found
      whole bank None none = λ net holds. let lt = within bank net holds in none net (omega (arith, lt, all)) holds
      whole bank (Some net) one = (record { one = net.0; is = one.holds; only = λ other holds. let lt = within bank other holds in one.only other (omega (arith, lt, all)) holds }, refl)
