-- How many cells a compiled netlist has: at most eight for each unit of the size of its models.
use Rattle.ncl_compile.proofs.Terms.{AreModels, BankParts, CanBeCompiled, IsPutTogether, List, Model, Parts, Some, StageParts, [], ap, arith, compile_size, flat_map, length, length-append, refl, slice_get, slice_index, suc, sum, sum_by, sum_by-cons, weight_of_model, widths_of, zero, ℕ, ◌*◌, ◌+◌, ◌<◌, ◌∷◌, ◌≡◌, ◌≤◌}
use Rattle.ncl_compile.proofs.BankWidths.{width_before, width_after}
use Rattle.ncl_compile.proofs.PartsAssembled.{bank_fact}

-- the first width is no more than all
first-le : (widths : List ℕ) → slice_index widths 0 ≤ sum widths
first-le [] = omega arith
first-le (w ∷ widths) = let whole : sum (w ∷ widths) ≡ w + sum widths = sum_by-cons (λ x. x) w widths in omega (arith, whole)

-- a stage costs five cells for each unit of the weight of its model, and two for each bit of the banks before and after
abbrev pub IsCheap : Model → ℕ → ℕ → StageParts → Type 0
IsCheap model before after stage = length stage.cells ≤ 5 * weight_of_model model + 2 * before + 2 * after

-- the cells of stages
stages-le : (models : List Model) (widths : List ℕ) (stages : List StageParts) → length stages ≡ length models
    → ((k : ℕ) (model : Model) (stage : StageParts) → slice_get models k ≡ Some model → slice_get stages k ≡ Some stage → IsCheap model (slice_index widths k) (slice_index widths (suc k)) stage)
    → length (flat_map (λ (stage : StageParts). stage.cells) stages) + 2 * slice_index widths 0 ≤ 5 * sum_by weight_of_model models + 4 * sum widths
stages-le [] widths [] long each = let first = first-le widths in omega (arith, first)
stages-le [] widths (stage ∷ stages) long each = absurd (omega arith)
stages-le (model ∷ models) widths [] long each = absurd (omega arith)
stages-le (model ∷ models) [] (stage ∷ stages) long each =
    let one = each zero model stage refl refl in
    let rest = stages-le models [] stages (omega arith) (λ k. each (suc k)) in
    let weights : sum_by weight_of_model (model ∷ models) ≡ weight_of_model model + sum_by weight_of_model models = sum_by-cons weight_of_model model models in
    omega (arith, one, rest, weights, length-append stage.cells (flat_map (λ (stage : StageParts). stage.cells) stages))
stages-le (model ∷ models) (w ∷ widths) (stage ∷ stages) long each =
    let one = each zero model stage refl refl in
    let rest = stages-le models widths stages (omega arith) (λ k. each (suc k)) in
    let weights : sum_by weight_of_model (model ∷ models) ≡ weight_of_model model + sum_by weight_of_model models = sum_by-cons weight_of_model model models in
    let whole : sum (w ∷ widths) ≡ w + sum widths = sum_by-cons (λ x. x) w widths in
    omega (arith, one, rest, weights, whole, length-append stage.cells (flat_map (λ (stage : StageParts). stage.cells) stages))

-- the cells of banks
banks-le : (widths : List ℕ) (banks : List BankParts) → length banks ≤ length widths → ((k : ℕ) (bank : BankParts) → slice_get banks k ≡ Some bank → length bank.cells ≤ 4 * slice_index widths k) → length (flat_map (λ (bank : BankParts). bank.cells) banks) ≤ 4 * sum widths
banks-le widths [] few each = omega arith
banks-le [] (bank ∷ banks) few each = absurd (omega arith)
banks-le (w ∷ widths) (bank ∷ banks) few each =
    let whole : sum (w ∷ widths) ≡ w + sum widths = sum_by-cons (λ x. x) w widths in
    let one = each zero bank refl in
    let rest = banks-le widths banks (omega arith) (λ k other at. each (suc k) other at) in
    omega (arith, whole, one, rest, length-append bank.cells (flat_map (λ (bank : BankParts). bank.cells) banks))

length-widths_of : (models : List Model) → 0 < length models → length (widths_of models) ≡ length models + 1
length-widths_of [] some = absurd (omega arith)
length-widths_of (model ∷ []) some = refl
length-widths_of (model ∷ other ∷ models) some = let rest = length-widths_of (other ∷ models) (omega arith) in omega (arith, rest)

module _ (models : List Model) (are : AreModels models) (small : CanBeCompiled models) (parts : Parts) (put : IsPutTogether models parts) where
  stage-cheap : (k : ℕ) (model : Model) (stage : StageParts) → slice_get models k ≡ Some model → slice_get put.stages k ≡ Some stage → IsCheap model (slice_index (widths_of models) k) (slice_index (widths_of models) (suc k)) stage
  stage-cheap k model stage at_model at =
      let is = put.are_stages.each k model stage at_model at in
      let few = is.are.few in
      let cost = is.cost in
      let inputs = is.inputs in
      let outputs = is.outputs in
      omega (arith, few, cost, inputs, outputs, width_before models k model at_model, width_after models k model are.joined at_model)

  bank-cheap : (k : ℕ) (bank : BankParts) → slice_get put.banks k ≡ Some bank → length bank.cells ≤ 4 * slice_index (widths_of models) k
  bank-cheap k bank at =
      let fact = bank_fact models are small parts put k bank at in
      let few = fact.are.few in
      let long = fact.long_ins in
      omega (arith, few, long)

  pub few_cells : length parts.cells ≤ 8 * compile_size models
  few_cells =
      let many = put.are_banks.as_many in
      let widths = length-widths_of models are.some in
      let stages = stages-le models (widths_of models) put.stages put.are_stages.as_many stage-cheap in
      let banks = banks-le (widths_of models) put.banks (omega (arith, many, widths)) bank-cheap in
      omega (arith, stages, banks, ap length put.cells, length-append (flat_map (λ (bank : BankParts). bank.cells) put.banks) (flat_map (λ (stage : StageParts). stage.cells) put.stages))
