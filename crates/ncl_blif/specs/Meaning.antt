-- What models mean (Berkeley BLIF).
use Rattle.std.specs.Prelude.{◌≡◌, ℕ, List, [], ◌∷◌, Bool, true, false, not, ◌&&◌, cond, length, map, All}
use Rattle.std.specs.List.{list_any}
use Rattle.ncl_blif.specs.declared.model.Lit.{Lit}
use Rattle.ncl_blif.specs.declared.model.Lit.TheVariants.{Zero, One, Dash}
use Rattle.ncl_blif.specs.declared.model.Model.{Model}

-- whether a literal lets a bit through
abbrev pub lit_matches : Lit → Bool → Bool
lit_matches Zero bit = not bit
lit_matches One bit = bit
lit_matches Dash bit = true

-- whether a row matches the bits of the inputs, as far as both go
abbrev pub row_matches : List Bool → List Lit → Bool
row_matches bits [] = true
row_matches [] (lit ∷ lits) = true
row_matches (bit ∷ bits) (lit ∷ lits) = lit_matches lit bit && row_matches bits lits

-- the value of a cover: of the ON-set 1 exactly where some row matches, of the OFF-set 0 exactly where some
-- row matches, and 0 where there are no rows
abbrev pub cover_value : Bool → List (List Lit) → List Bool → Bool
cover_value on [] bits = false
cover_value on (row ∷ rows) bits =
    let matches = list_any (row_matches bits) (row ∷ rows) in cond on matches (not matches)

-- bits of all signals fit a word: the inputs have the bits of the word, and each cover's signal has the value that
-- its rows give
pub record Fits (model : Model) (word : List Bool) (bits : ℕ → Bool) : Type 0 where
  pub inputs : map bits model.inputs ≡ word
  pub covers : All (λ cover. bits cover.out ≡ cover_value cover.on cover.rows (map bits cover.ins)) model.covers

-- a model gives an output word at an input word
abbrev pub Gives : Model → List Bool → List Bool → Type 0
Gives model word answer =
    (bits : ℕ → Bool) × Fits model word bits × (answer ≡ map bits model.outputs)

-- the models one after another: the outputs of each are the inputs of the next, by position
abbrev pub Computes : List Model → List Bool → List Bool → Type 0
Computes [] word answer = answer ≡ word
Computes (model ∷ models) word answer = (between : List Bool) × Gives model word between × Computes models between answer

-- how many bits the words have that models take: as many as the first of them has inputs
abbrev pub width_of : List Model → ℕ
width_of [] = 0
width_of (model ∷ models) = length model.inputs
