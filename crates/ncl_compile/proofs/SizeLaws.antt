-- The size of models: what it is made of, and that it stays small.
use Rattle.ncl_compile.proofs.Terms.{All, All-head, All-tail, AreModels, Cover, IsModel, IsSlim, List, Model, Some, [], ap, arith, compile_size, get_or, get_or-le-sum_by, length, most_size, size_of_model, slice_get, slice_get-get_or, suc, sum, sum_by, sum_by-cons, sum_by-le-sum_by, sum_by_more_le_part, take, weight_of_model, weight_of_rows, widths_of, ℕ, ◌+◌, ◌-◌, ◌<◌, ◌∷◌, ◌≡◌, ◌≤◌}

-- what a model adds to the size
abbrev pub units_of : Model → ℕ
units_of model = weight_of_model model + length model.inputs

pub units-le : (model : Model) → units_of model + length model.outputs ≤ size_of_model model
units-le model =
    let rows = sum_by-le-sum_by (λ (cover : Cover). weight_of_rows cover.rows) (λ (cover : Cover). 1 + length cover.ins + weight_of_rows cover.rows) model.covers (λ cover. omega arith) in
    omega (arith, rows)

sum_of_sums : {X : Type 0} (f g : X → ℕ) (xs : List X) → sum_by (λ x. f x + g x) xs ≡ sum_by f xs + sum_by g xs
sum_of_sums f g [] = omega arith
sum_of_sums f g (x ∷ xs) =
    let both : sum_by (λ x. f x + g x) (x ∷ xs) ≡ f x + g x + sum_by (λ x. f x + g x) xs = sum_by-cons (λ x. f x + g x) x xs in
    omega (arith, both, sum_by-cons f x xs, sum_by-cons g x xs, sum_of_sums f g xs)

abbrev inputs_of : Model → ℕ
inputs_of model = length model.inputs

-- the widths of the banks: the inputs of all models, and the outputs of the last
sum-widths_of : (models : List Model) (d : Model) → 0 < length models → sum (widths_of models) ≡ sum_by inputs_of models + length (get_or models (length models - 1) d).outputs
sum-widths_of [] d some = absurd (omega arith)
sum-widths_of (model ∷ []) d some = omega arith
sum-widths_of (model ∷ other ∷ models) d some =
    let place : length (model ∷ other ∷ models) - 1 ≡ suc (length (other ∷ models) - 1) = omega arith in
    let last = ap (λ k. length (get_or (model ∷ other ∷ models) k d).outputs) place in
    let widths : sum (length model.inputs ∷ widths_of (other ∷ models)) ≡ length model.inputs + sum (widths_of (other ∷ models)) = sum_by-cons (λ x. x) (length model.inputs) (widths_of (other ∷ models)) in
    let inputs : sum_by inputs_of (model ∷ other ∷ models) ≡ length model.inputs + sum_by inputs_of (other ∷ models) = sum_by-cons inputs_of model (other ∷ models) in
    omega (arith, last, widths, inputs, sum-widths_of (other ∷ models) d (omega arith))

module _ (models : List Model) (are : AreModels models) where
  pub compile_size-is : (d : Model) → compile_size models ≡ length (get_or models (length models - 1) d).outputs + sum_by units_of models
  compile_size-is d =
      let some = are.some in
      omega (arith, sum-widths_of models d some, sum_of_sums weight_of_model inputs_of models)

  -- one model is no larger than all
  pub model-small : (i : ℕ) (d : Model) → i < length models → weight_of_model (get_or models i d) + length (get_or models i d).inputs + length (get_or models i d).outputs ≤ most_size
  model-small i d lt =
      let small = are.small in
      omega (arith, small, get_or-le-sum_by size_of_model models i d lt, units-le (get_or models i d))

  -- nor are the first and one more
  pub units-small : (i : ℕ) (d : Model) → i < length models → sum_by units_of (take i models) + units_of (get_or models i d) ≤ most_size
  units-small i d lt =
      let small = are.small in
      let more = sum_by_more_le_part units_of size_of_model models i d lt (λ model. let less = units-le model in omega (arith, less)) in
      let one = units-le (get_or models i d) in
      omega (arith, small, more, one)

  -- there are few models, as each has an input
  pub few_models : length models ≤ most_size
  few_models =
      let small = are.small in
      omega (arith, small, as_many models are.each)
    where
      as_many : (models : List Model) → All IsModel models → length models ≤ sum_by size_of_model models
      as_many [] each = omega arith
      as_many (model ∷ models) each =
          let whole : sum_by size_of_model (model ∷ models) ≡ size_of_model model + sum_by size_of_model models = sum_by-cons size_of_model model models in
          let one = (All-head IsModel model models each).has_input in
          let less = units-le model in
          omega (arith, whole, one, less, as_many models (All-tail IsModel model models each))

-- where each is slim by its place all are
pub all_slim : (models : List Model) (i : ℕ) → length models ≤ i → ((k : ℕ) (model : Model) → k < i → slice_get models k ≡ Some model → IsSlim model) → All IsSlim models
all_slim models i all each k d lt = each k (get_or models k d) (omega arith) (slice_get-get_or models k d lt)
