-- The widths of the banks before, between and after models.
use Rattle.ncl_compile.proofs.Terms.{All-at, AreJoined, AreModels, AreStages, CanBeCompiled, IsFreeOf, IsModel, IsSlim, List, MOST_BITS, Model, Some, StageParts, [], ap, arith, bank_prefix, cases_lt, inl, inr, length, pair_names, refl, slice_get, slice_get-some, slice_get_within, slice_index, suc, sym, width_of, widths_of, zero, ℕ, ◌-◌, ◌<◌, ◌∙◌, ◌∷◌, ◌≡◌, ◌≤◌, ◌⊎◌}
use Rattle.ncl_compile.proofs.CallLaws.{outputs_free}

-- the bank before a model is as wide as its inputs
pub width_before : (models : List Model) (k : ℕ) (model : Model) → slice_get models k ≡ Some model → slice_index (widths_of models) k ≡ length model.inputs
width_before [] k model at = absurd cc
width_before (first ∷ []) zero model at = let same : first ≡ model = cc in ap (λ (m : Model). length m.inputs) same
width_before (first ∷ []) (suc k) model at = absurd cc
width_before (first ∷ other ∷ models) zero model at = let same : first ≡ model = cc in ap (λ (m : Model). length m.inputs) same
width_before (first ∷ other ∷ models) (suc k) model at = width_before (other ∷ models) k model at

-- and the bank after it as wide as its outputs
pub width_after : (models : List Model) (k : ℕ) (model : Model) → AreJoined models → slice_get models k ≡ Some model → slice_index (widths_of models) (suc k) ≡ length model.outputs
width_after [] k model joined at = absurd cc
width_after (first ∷ []) zero model joined at = let same : first ≡ model = cc in ap (λ (m : Model). length m.outputs) same
width_after (first ∷ []) (suc k) model joined at = absurd cc
width_after (first ∷ other ∷ models) zero model joined at =
    let same : first ≡ model = cc in
    width_before (other ∷ models) zero other refl ∙ joined.0 ∙ ap (λ (m : Model). length m.outputs) same
width_after (first ∷ other ∷ models) (suc k) model joined at = width_after (other ∷ models) k model joined.1 at

-- the first bank takes the words of the first model
pub width_first : (models : List Model) → 0 < length models → slice_index (widths_of models) 0 ≡ width_of models
width_first [] some = absurd (omega arith)
width_first (model ∷ []) some = refl
width_first (model ∷ other ∷ models) some = refl

module _ (models : List Model) (are : AreModels models) (small : CanBeCompiled models) where
  -- a bank stands before a model, or after the last
  before_or_after : (k : ℕ) → k ≤ length models → ((model : Model) × (slice_get models k ≡ Some model)) ⊎ ((j : ℕ) × (model : Model) × (k ≡ suc j) × (slice_get models j ≡ Some model))
  before_or_after k within =
      elim (cases_lt k (length models)) [
        | inl inside ↦ inl (slice_get-some models k inside)
        | inr past ↦
            let some = are.some in
            let (model, at) = slice_get-some models (k - 1) (omega arith) in
            inr (k - 1, model, omega arith, at)
      ]

  -- each bank has 1 to 128 bits
  pub width_bounds : (k : ℕ) → k ≤ length models → (1 ≤ slice_index (widths_of models) k) × (slice_index (widths_of models) k ≤ MOST_BITS)
  width_bounds k within =
      elim (before_or_after k within) [
        | inl (model, at) ↦
            let width = width_before models k model at in
            let slim = All-at IsSlim models small.slim k model at in
            let some = (All-at IsModel models are.each k model at).has_input in
            (omega (arith, width, some), omega (arith, width, slim.0))
        | inr (j, model, place, at) ↦
            let width = ap (slice_index (widths_of models)) place ∙ width_after models j model are.joined at in
            let slim = All-at IsSlim models small.slim j model at in
            let some = (All-at IsModel models are.each j model at).has_output in
            (omega (arith, width, some), omega (arith, width, slim.1))
      ]

  module _ (stages : List StageParts) (are_stages : AreStages models stages) where
    -- a stage with its model
    pub model_of_stage : (k : ℕ) (stage : StageParts) → slice_get stages k ≡ Some stage → (model : Model) × (slice_get models k ≡ Some model)
    model_of_stage k stage at =
        let within = slice_get_within stages k stage at in
        let many = are_stages.as_many in
        slice_get-some models k (omega (arith, within, many))

    pub stage_of_model : (k : ℕ) → k < length models → (stage : StageParts) × (slice_get stages k ≡ Some stage)
    stage_of_model k lt = let many = are_stages.as_many in slice_get-some stages k (omega (arith, lt, many))

    -- a stage has an output for each bit of the bank after it
    pub length-outputs : (k : ℕ) (stage : StageParts) → slice_get stages k ≡ Some stage → length stage.outputs ≡ slice_index (widths_of models) (suc k)
    length-outputs k stage at =
        let (model, at_model) = model_of_stage k stage at in
        let is = are_stages.each k model stage at_model at in
        is.are.as_many ∙ is.outputs ∙ sym (width_after models k model are.joined at_model)

    -- and its outputs are free of what that bank names
    pub stage_outputs_free : (bank k : ℕ) (stage : StageParts) → slice_get stages k ≡ Some stage → IsFreeOf (bank_prefix bank) (pair_names stage.outputs)
    stage_outputs_free bank k stage at =
        let (model, at_model) = model_of_stage k stage at in
        let is = are_stages.each k model stage at_model at in
        outputs_free bank k (length model.inputs) is.network stage is.are
