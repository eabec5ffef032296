-- The seventh and the eighth rule of shape, by the bits that were found for each bank of a chain.
use Rattle.ncl_shape.proofs.Terms.{AllZip, AllZip-at, AreBitsOf, Bit, Broken, Chained, FailsFirst, InPairs, IsChain, IsChained, IsFree, IsNarrow, IsNetlist, List, MOST_BANKS, MOST_BITS, NarrowBanks, NetlistData, NoFork, OffCycles, PortsRead, RuleHolds, Some, SomeRegister, Tied, TooLong, TooWide, TwoEnds, Unmixed, [], ap, arith, cases_lt, get_or, get_or_past, inl, inr, length, slice_get, slice_get-some, subst, ℕ, ◌+◌, ◌-◌, ◌<◌, ◌≡◌, ◌≤◌}
use Rattle.ncl_shape.proofs.InnerRules.{of_each_chain}
use Rattle.ncl_shape.proofs.RuleOrder.{RulesBelow, no_rule_below, one_rule_more}
use Rattle.ncl_shape.proofs.ShapeLaws.{bits_are_one}
use Rattle.ncl_shape.proofs.ZippedLists.{AllZip-length}

module _ (n : NetlistData) (free : IsFree n) where
  -- the first five rules hold
  pub rules_before : RulesBelow n 6
  rules_before =
      one_rule_more n Tied free.tied
      (one_rule_more n Unmixed free.unmixed (one_rule_more n InPairs free.paired (one_rule_more n OffCycles free.off_cycles (one_rule_more n PortsRead free.ports_read (no_rule_below n)))))

  -- and the sixth, where the banks are a chain
  chained_before : IsChained n → RulesBelow n 7
  chained_before chained = one_rule_more n Chained chained rules_before

  narrow_before : IsChained n → RuleHolds n NarrowBanks → RulesBelow n 8
  narrow_before chained narrow = one_rule_more n NarrowBanks narrow (chained_before chained)

module _ (n : NetlistData) (is : IsNetlist n) (free : IsFree n) (chained : IsChained n) (chain : List ℕ) (is_chain : IsChain n chain) where
  -- a bank is narrow where its bits are few
  is_narrow : (bank : ℕ) (bits : List Bit) → AreBitsOf n bank bits → length bits ≤ MOST_BITS → IsNarrow n bank
  is_narrow bank bits are few others of_others = subst (λ (l : List Bit). length l ≤ MOST_BITS) (bits_are_one n is bank bits others are of_others) few

  module _ (lists : List (List Bit)) (are : AllZip (AreBitsOf n) chain lists) where
    bits_at : (k bank : ℕ) → slice_get chain k ≡ Some bank → AreBitsOf n bank (get_or lists k [])
    bits_at k bank at = AllZip-at (AreBitsOf n) chain lists are k bank [] at

    -- a list of too many bits is that of a bank
    pub wide_within : (k : ℕ) → (length (get_or lists k []) ≤ MOST_BITS → ⊥) → k < length chain
    wide_within k wide =
        elim (cases_lt k (length chain)) [
          | inl within ↦ within
          | inr past ↦
              let lengths = AllZip-length (AreBitsOf n) chain lists are in
              let none = ap length (get_or_past lists k [] (omega (arith, past, lengths))) in
              absurd (wide (omega (arith, none)))
        ]

    -- the first bank of too many bits breaks the seventh rule
    pub too_wide : (k : ℕ) → FailsFirst (λ j. length (get_or lists j []) ≤ MOST_BITS) k → Broken n (TooWide (k + 1))
    too_wide k wide =
        let (bank, at) = slice_get-some chain k (wide_within k wide.fails) in
        let first : FailsFirst (λ j. (other : ℕ) → slice_get chain j ≡ Some other → IsNarrow n other) k = record {
          fails = λ narrow. wide.fails (narrow bank at (get_or lists k []) (bits_at k bank at));
          before = λ j less other at_other. is_narrow other (get_or lists j []) (bits_at j other at_other) (wide.before j less);
        } in
        let place : k ≡ k + 1 - 1 = omega arith in
        record {
          breaks = (chain, is_chain, omega arith, subst (FailsFirst (λ j. (other : ℕ) → slice_get chain j ≡ Some other → IsNarrow n other)) place first);
          before = chained_before n free chained;
        }

    -- where no list has too many the seventh rule holds
    all_narrow : ((k : ℕ) → length (get_or lists k []) ≤ MOST_BITS) → RuleHolds n NarrowBanks
    all_narrow few banks k bank other at =
        of_each_chain n (chained SomeRegister) (chained TwoEnds) is free (chained NoFork) chain is_chain (λ xs. slice_get xs k ≡ Some bank → IsNarrow n bank) (λ at_k. is_narrow bank (get_or lists k []) (bits_at k bank at_k) (few k)) banks other at

    -- and too many banks break the eighth
    pub too_long : ((k : ℕ) → length (get_or lists k []) ≤ MOST_BITS) → MOST_BANKS < length chain → Broken n TooLong
    too_long few many = record { breaks = λ short. let less = short chain is_chain in omega (arith, less, many); before = narrow_before n free chained (all_narrow few) }
