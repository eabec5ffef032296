-- What the set functions of the gates have in common, and what hysteresis means (Fant and Brandt 1996;
-- Smith and Di 2009).
use Rattle.std.specs.Prelude.{◌≡◌, ◌≢◌, ◌<◌, ℕ, List, [], Bool, true, false, length, slice_index_or, All}
use Rattle.std.specs.List.{list_all}
use Rattle.ncl_gates.specs.declared.kind.Kind.{Kind}
use Rattle.ncl_gates.specs.Gate.{Pin, arity_of, products, place_of, set_of, some_high, next_of}

-- every input is 1
abbrev pub all_high : List Bool → Bool
all_high ins = list_all (λ b. b) ins

-- the second list is as long as the first, and has a 1 wherever the first has one
pub record IsBelow (ins more : List Bool) : Type 0 where
  pub same_length : length ins ≡ length more
  pub rises : (place : ℕ) → slice_index_or ins place false ≡ true → slice_index_or more place false ≡ true

-- raising inputs never lowers the function
abbrev pub IsMonotone : (List Bool → Bool) → Type 0
IsMonotone f = (ins more : List Bool) → IsBelow ins more → f ins ≡ true → f more ≡ true

-- the next value rises where the set function holds, falls where no input is 1, and is the old value
-- between these
pub record HasHysteresis (kind : Kind) : Type 0 where
  pub rises : (ins : List Bool) (old : Bool) → set_of kind ins ≡ true → next_of kind ins old ≡ true
  pub falls : (ins : List Bool) (old : Bool) → some_high ins ≡ false → next_of kind ins old ≡ false
  pub keeps : (ins : List Bool) (old : Bool) → set_of kind ins ≡ false → some_high ins ≡ true → next_of kind ins old ≡ old

-- the gate is set where all its inputs are 1, and only there
abbrev pub IsConjunction : Kind → Type 0
IsConjunction kind = (ins : List Bool) → length ins ≡ arity_of kind → set_of kind ins ≡ all_high ins

-- the gate is set where some input is 1, and only there
abbrev pub IsDisjunction : Kind → Type 0
IsDisjunction kind = (ins : List Bool) → length ins ≡ arity_of kind → set_of kind ins ≡ some_high ins

-- a product has pins, and only pins of a gate with this arity
pub record IsProductWithin (arity : ℕ) (product : List Pin) : Type 0 where
  pub filled : product ≢ []
  pub within : All (λ pin. place_of pin < arity) product

-- a gate has products, and each has pins, all of them the gate's
pub record HasProducts (kind : Kind) : Type 0 where
  pub some : products kind ≢ []
  pub each : All (IsProductWithin (arity_of kind)) (products kind)
