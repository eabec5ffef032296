-- The bit order of a stage does not depend on the order in which its cells are listed.
use Rattle.ncl_stage.proofs.Terms.{Contains-from_Member, Contains-permutation, IsPermutation, IsPermutation-sym, IsStage, List, Member, Member-from_Contains, StageCell, StageData, [], ap, bit_order, bits_from, cases_eq, driver_of, flat_map, here, inl, inr, length, length_permutation, map, member_cases, met, out_of, rail_nets, range_with_len, read_by, refl, right-differ, suc, sym, there, with_bits, zero, ℕ, ◌++◌, ◌∙◌, ◌∷◌, ◌≡◌, ◌⊎◌, with_cells}
use Rattle.ncl_stage.proofs.BitOrderLaws.{driver-none, driver-some, flat_map_same}

-- some cell drives the net, or none does
driver-cases : (cells : List StageCell) (net : ℕ) → ((c : StageCell) × Member c cells × (out_of c ≡ net)) ⊎ ((c : StageCell) → Member c cells → out_of c ≡ net → ⊥)
driver-cases [] net = inr (λ c m. elim m [ ])
driver-cases (d ∷ cells) net = elim (cases_eq (out_of d) net) [
  | inl same ↦ inl (d, here, same)
  | inr other ↦ elim (driver-cases cells net) [
    | inl (c, m, at) ↦ inl (c, there m, at)
    | inr none ↦ inr (λ c m at. elim (member_cases c d cells m) [ inl same ↦ other (ap out_of same ∙ at) | inr later ↦ none c later at ])
  ]
]

module _ (s : StageData) (ys : List StageCell) (is : IsStage s) (is_other : IsStage (with_cells s ys)) (moved : IsPermutation s.cells ys) where
  same_driver : (net : ℕ) → driver_of s.cells net ≡ driver_of ys net
  same_driver net = elim (driver-cases s.cells net) [
    | inl (c, m, at) ↦
        ap (driver_of s.cells) (sym at)
        ∙ driver-some s.cells (right-differ (rail_nets s.inputs) (map out_of s.cells) is.nets_differ) c m
        ∙ sym (driver-some ys (right-differ (rail_nets s.inputs) (map out_of ys) is_other.nets_differ) c (Member-from_Contains ys c (Contains-permutation s.cells ys c moved (Contains-from_Member c m))))
        ∙ ap (driver_of ys) at
    | inr none ↦
        driver-none s.cells net none
        ∙ sym (driver-none ys net (λ c m. none c (Member-from_Contains s.cells c (Contains-permutation ys s.cells c (IsPermutation-sym s.cells ys moved) (Contains-from_Member c m)))))
  ]

  same_met : (cells net : ℕ) → met s cells net ≡ met (with_cells s ys) cells net
  same_met zero net = refl
  same_met (suc cells) net =
      ap (λ o. bits_from 0 s.inputs net ++ flat_map (met s cells) (read_by o)) (same_driver net)
      ∙ ap (λ l. bits_from 0 s.inputs net ++ l) (flat_map_same (met s cells) (met (with_cells s ys) cells) (read_by (driver_of ys net)) (λ pin m. same_met cells pin))

  pub same_order : bit_order s ≡ bit_order (with_cells s ys)
  same_order =
      ap (λ l. with_bits [] (l ++ range_with_len 0 (length s.inputs)))
      (flat_map_same (met s (length s.cells)) (met (with_cells s ys) (length s.cells)) (rail_nets s.outputs) (λ net m. same_met (length s.cells) net)
      ∙ ap (λ n. flat_map (met (with_cells s ys) n) (rail_nets s.outputs)) (sym (length_permutation s.cells ys moved)))
