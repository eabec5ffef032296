-- The places of banks in a walk, as the table of numbers has them.
use Rattle.ncl_shape.proofs.Terms.{AreNumbersOf, List, NetlistData, None, Option, Some, ap, arith, cases_eq, cases_lt, get_or-replicate, get_or-set_other, get_or-set_same, get_or_past, inl, inr, length, length-replicate, length-set, number_at, replicate, set, slice_get, slice_get_within, subst, sym, ℕ, ◌+◌, ◌<◌, ◌∙◌, ◌≡◌, ◌≤◌}

-- the numbers of the banks at the first places
pub record AreNumbersBelow (n : NetlistData) (banks : List ℕ) (limit : ℕ) (numbers : List (Option ℕ)) : Type 0 where
  pub sized : length numbers ≡ length n.nets
  pub numbered : (bank k : ℕ) → number_at numbers bank ≡ Some k → slice_get banks k ≡ Some bank
  pub each : (k bank : ℕ) → k < limit → slice_get banks k ≡ Some bank → (j : ℕ) × (number_at numbers bank ≡ Some j)

module _ (n : NetlistData) (banks : List ℕ) where
  pub numbers_begin : (numbers : List (Option ℕ)) → numbers ≡ replicate (length n.nets) None → AreNumbersBelow n banks 0 numbers
  numbers_begin numbers none = record {
    sized = ap length none ∙ length-replicate {A = Option ℕ} (length n.nets) None;
    numbered = λ bank k said. let clash : None ≡ Some k = sym (nothing bank) ∙ said in absurd cc;
    each = λ k bank lt at. absurd (omega (arith, lt));
  }
    where
      nothing : (bank : ℕ) → number_at numbers bank ≡ None
      nothing bank =
          let sized : length numbers ≡ length n.nets = ap length none ∙ length-replicate {A = Option ℕ} (length n.nets) None in
          elim (cases_lt bank (length n.nets)) [
            | inl inside ↦ ap (λ l. number_at l bank) none ∙ get_or-replicate (length n.nets) bank None None inside
            | inr past ↦ get_or_past numbers bank None (omega (arith, past, sized))
          ]

  -- the bank at one place more
  pub numbers_more : (k bank : ℕ) (numbers : List (Option ℕ)) → AreNumbersBelow n banks k numbers → slice_get banks k ≡ Some bank → bank < length n.nets → AreNumbersBelow n banks (k + 1) (set numbers bank (Some k))
  numbers_more k bank numbers so_far at inside = record {
    sized = length-set numbers bank (Some k) ∙ so_far.sized;
    numbered = λ other j said. elim (cases_eq other bank) [
      | inl same ↦
          let both : Some k ≡ Some j = sym (here other same) ∙ said in
          let one : k ≡ j = cc in
          subst (λ i. slice_get banks i ≡ Some other) one (at ∙ ap Some (sym same))
      | inr differ ↦ so_far.numbered other j (sym (get_or-set_other numbers bank other (Some k) None differ) ∙ said)
    ];
    each = λ j other lt at_other. elim (cases_eq other bank) [
      | inl same ↦ (k, here other same)
      | inr differ ↦ elim (cases_lt j k) [
        | inl less ↦ let (i, said) = so_far.each j other less at_other in (i, get_or-set_other numbers bank other (Some k) None differ ∙ said)
        | inr most ↦
            let places : j ≡ k = omega (arith, lt, most) in
            let both : Some other ≡ Some bank = sym at_other ∙ ap (slice_get banks) places ∙ at in
            absurd (differ cc)
      ]
    ];
  }
    where
      here : (other : ℕ) → other ≡ bank → number_at (set numbers bank (Some k)) other ≡ Some k
      here other same =
          let sized = so_far.sized in
          ap (number_at (set numbers bank (Some k))) same ∙ get_or-set_same numbers bank (Some k) None (omega (arith, inside, sized))

  pub numbers_whole : (k : ℕ) (numbers : List (Option ℕ)) → length banks ≤ k → AreNumbersBelow n banks k numbers → AreNumbersOf n banks numbers
  numbers_whole k numbers all so_far = record {
    sized = so_far.sized;
    numbered = so_far.numbered;
    each = λ j bank at. let within = slice_get_within banks j bank at in so_far.each j bank (omega (arith, within, all)) at;
  }
