-- Stages, one after another.
use Rattle.ncl_demo.proofs.Terms.{AreJoined, AreModels, CanBeCompiled, Cover, HoldsAt, IsAdder, List, Model, [], arith, cases_lt, get_or, get_or_append_left, get_or_push, length, length_push, size_of_model, subst, suc, sum, sum_by, sum_by-cons, sum_by-le, sym, weight_of_model, weight_of_rows, widths_of, ℕ, ⊎_elim, ◌++◌, ◌+◌, ◌<◌, ◌∙◌, ◌∷◌, ◌≡◌, ◌≤◌}
use Rattle.ncl_demo.proofs.Staging.{Serves}

-- the first stages of an adder, so many
pub record Row (bits : ℕ) (models : List Model) (count : ℕ) : Type 0 where
  pub many : length models ≡ count
  pub each : (k : ℕ) → k < count → HoldsAt (Serves bits k) models k

-- one more
pub row_more : (bits : ℕ) (models : List Model) (count : ℕ) (m : Model) → Row bits models count → Serves bits count m → Row bits (models ++ m ∷ []) (count + 1)
row_more bits models count m row serves = record {
  many = omega (arith, length_push models m, row.many);
  each = λ k below d. ⊎_elim
      (λ old. subst (Serves bits k) (sym (get_or_append_left models (m ∷ []) d k (omega (arith, row.many)))) (row.each k old d))
      (λ here.
      let same : k ≡ count = omega arith in
      subst (Serves bits k) (sym (get_or_push models m d k (row.many ∙ sym same))) (subst (λ n. Serves bits n m) (sym same) serves))
      (cases_lt k count);
}

-- each stage takes what the one before it gives
joined : (bits first : ℕ) (models : List Model) → ((k : ℕ) → k < length models → HoldsAt (Serves bits (first + k)) models k) → first + length models ≤ bits → AreJoined models
joined bits first [] each within = tt
joined bits first (model ∷ []) each within = tt
joined bits first (model ∷ next ∷ models) each within = (
  omega (arith, (each 0 (omega arith) model).is_stage.outputs, (each 1 (omega arith) model).is_stage.inputs),
  joined bits (first + 1) (next ∷ models) (λ k below d.
      let at : first + suc k ≡ first + 1 + k = omega arith in
      subst (λ n. Serves bits n (get_or (next ∷ models) k d)) at (each (suc k) (omega arith) d)) (omega arith),
)

module _ (bits : ℕ) (models : List Model) (some : 0 < bits) (few : bits ≤ 32) (row : Row bits models bits) where
  sizes_small : sum_by size_of_model models ≤ 6400
  sizes_small = omega (arith, sum_by-le size_of_model 200 models (λ k d below. (row.each k (omega (arith, row.many)) d).small), row.many)

  pub are_models : AreModels models
  are_models = record {
    some = omega (arith, row.many);
    each = λ k d below. (row.each k (omega (arith, row.many)) d).is_model;
    joined = joined bits 0 models (λ k below d.
        let at : k ≡ 0 + k = omega arith in
        subst (λ n. Serves bits n (get_or models k d)) at (row.each k (omega (arith, row.many)) d)) (omega (arith, row.many));
    small = omega (arith, sizes_small);
  }

  pub is_adder : IsAdder bits models
  is_adder = record { many = row.many; stages = λ stage below d. (row.each stage below d).is_stage }

abbrev weight_of_cover : Cover → ℕ
weight_of_cover cover = weight_of_rows cover.rows

abbrev size_of_cover : Cover → ℕ
size_of_cover cover = 1 + length cover.ins + weight_of_rows cover.rows

-- rows weigh no more than the model is large
rows_within : (covers : List Cover) → sum_by weight_of_cover covers ≤ sum_by size_of_cover covers
rows_within [] = omega arith
rows_within (cover ∷ covers) = omega (arith, sum_by-cons weight_of_cover cover covers, sum_by-cons size_of_cover cover covers, rows_within covers)

weights_within : (models : List Model) → sum_by weight_of_model models ≤ sum_by size_of_model models
weights_within [] = omega arith
weights_within (model ∷ models) =
    omega (arith, sum_by-cons weight_of_model model models, sum_by-cons size_of_model model models, rows_within model.covers, weights_within models)

-- the banks are no wider than the models are large
widths_within : (models : List Model) → sum (widths_of models) ≤ sum_by size_of_model models
widths_within [] = omega arith
widths_within (model ∷ []) = omega arith
widths_within (model ∷ next ∷ models) =
    let head : sum (widths_of (model ∷ next ∷ models)) ≡ length model.inputs + sum (widths_of (next ∷ models)) = sum_by-cons (λ n. n) (length model.inputs) (widths_of (next ∷ models)) in
    omega (arith, head, sum_by-cons size_of_model model (next ∷ models), widths_within (next ∷ models))

-- the stages of an adder of at most 32 bits are small enough
pub can_be_compiled : (bits : ℕ) (models : List Model) → 0 < bits → bits ≤ 32 → Row bits models bits → CanBeCompiled models
can_be_compiled bits models some few row = record {
  slim = λ k d below.
      let stage = (row.each k (omega (arith, row.many)) d).is_stage in
      (omega (arith, stage.inputs, row.many), omega (arith, stage.outputs, row.many));
  few = omega (arith, row.many);
  small = omega (arith, weights_within models, widths_within models, sizes_small bits models some few row);
}
