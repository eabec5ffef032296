-- The stages of a layout by number: each is one of the pipeline or wires, and each of the pipeline is there.
use Rattle.ncl_cell_roles.proofs.Terms.{Contains, Contains-from_slice_get, IsLayoutOf, IsWires, Layout, PipelineData, StageData, arith, cases_lt, inl, inr, length, slice_get-from_Contains, slice_get-some, slice_get_within, subst, suc, sym, zero, ℕ, ◌<◌, ◌≡◌, ◌≤◌, ◌⊎◌}

module _ (p : PipelineData) (l : Layout) (is : IsLayoutOf p l) where
  pub wires_or_stage : (k : ℕ) → k ≤ l.last → Contains p.stages (l.stage k) ⊎ IsWires (l.stage k)
  wires_or_stage zero le = inr is.first_wires
  wires_or_stage (suc k) le =
      elim (cases_lt k (length p.stages)) [
        | inl lt ↦
            let (s, at) = slice_get-some p.stages k lt in
            inl (subst (Contains p.stages) (sym (is.in_order k s at)) (Contains-from_slice_get p.stages k s at))
        | inr past ↦
            let many = is.as_many in
            let last : l.last ≡ suc k = omega (arith, many, le, past) in
            inr (subst (λ n. IsWires (l.stage n)) last is.last_wires)
      ]

  pub stage_of : (s : StageData) → Contains p.stages s → (k : ℕ) × (k ≤ l.last) × (l.stage k ≡ s)
  stage_of s listed =
      let (k, at) = slice_get-from_Contains p.stages s listed in
      let many = is.as_many in
      let lt : k < length p.stages = slice_get_within p.stages k s at in
      (suc k, omega (arith, many, lt), is.in_order k s at)
