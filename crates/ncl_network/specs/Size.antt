-- How large models are, and which are small enough to be compiled.
use Rattle.std.specs.Prelude.{ℕ, ◌+◌, ◌≤◌, List, [], ◌∷◌, length, sum, sum_by, All}
use Rattle.ncl_base.specs.declared.word.TheConstants.{MOST_BITS}
use Rattle.ncl_blif.specs.declared.model.Model.{Model}
use Rattle.ncl_network.specs.Network.{weight_of_model}

-- the widths of the banks: one before each model, as wide as its inputs, and one after the last
abbrev pub widths_of : List Model → List ℕ
widths_of [] = []
widths_of (model ∷ []) = length model.inputs ∷ length model.outputs ∷ []
widths_of (model ∷ next ∷ models) = length model.inputs ∷ widths_of (next ∷ models)

-- the size of models: the weight of their rows, and the bits of all banks
abbrev pub compile_size : List Model → ℕ
compile_size models = sum_by weight_of_model models + sum (widths_of models)

-- the most models, and the largest size
abbrev pub most_models : ℕ
most_models = 255

abbrev pub most_units : ℕ
most_units = 16384

-- a model has no more inputs and outputs than a word has bits
abbrev pub IsSlim : Model → Type 0
IsSlim model = (length model.inputs ≤ MOST_BITS) × (length model.outputs ≤ MOST_BITS)

-- the models are small enough
pub record CanBeCompiled (models : List Model) : Type 0 where
  pub slim : All IsSlim models
  pub few : length models ≤ most_models
  pub small : compile_size models ≤ most_units
