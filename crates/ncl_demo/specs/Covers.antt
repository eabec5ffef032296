-- The two covers of a stage.
use Rattle.std.specs.Prelude.{ℕ, ◌+◌, List, [], ◌∷◌, true}
use Rattle.ncl_blif.specs.declared.model.Lit.{Lit}
use Rattle.ncl_blif.specs.declared.model.Cover.{Cover}

-- the covers of these rows that read these signals, for the carry and, under the next number, for the sum
abbrev pub covers_of : List ℕ → ℕ → List (List Lit) → List (List Lit) → List Cover
covers_of ins first carry sum =
    record { ins = ins; out = first; on = true; rows = carry }
    ∷ record { ins = ins; out = first + 1; on = true; rows = sum } ∷ []
