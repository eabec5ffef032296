-- Which models are too large to be compiled.
use Rattle.std.specs.Prelude.{◌≡◌, ℕ, ◌+◌, ◌<◌, ◌≤◌, List, length, slice_get, Some, All}
use Rattle.ncl_blif.specs.declared.model.Model.{Model}
use Rattle.ncl_network.specs.Size.{IsSlim, compile_size, most_models, most_units}
use Rattle.ncl_compile.specs.declared.fault.CompileFault.{CompileFault}
use Rattle.ncl_compile.specs.declared.fault.CompileFault.TheVariants.{TooWide, TooLong, TooMany, Memory}

-- the model of this number, from 1, is the first that is too wide
pub record IsFirstWide (models : List Model) (number : ℕ) : Type 0 where
  pub before : ℕ
  pub is : number ≡ before + 1
  pub wide : (model : Model) × (slice_get models before ≡ Some model) × (IsSlim model → ⊥)
  pub slim_before : (k : ℕ) (model : Model) → k < before → slice_get models k ≡ Some model → IsSlim model

-- why models are not compiled: what is refused first of width, number and size. Want of memory is no fault of the
-- models
abbrev pub IsCompileFault : List Model → CompileFault → Type 0
IsCompileFault models (TooWide number) = IsFirstWide models number
IsCompileFault models TooLong = All IsSlim models × (most_models < length models)
IsCompileFault models TooMany = All IsSlim models × (length models ≤ most_models) × (most_units < compile_size models)
IsCompileFault models Memory = Unit {0}
