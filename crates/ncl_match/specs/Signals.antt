-- The functions of the signals of models, and the tables that the covers in their row make.
use Rattle.std.specs.Prelude.{◌≡◌, ℕ, ◌+◌, ◌<◌, List, [], Bool, true, Option, Some, None, length, map, All, slice_get, if◌then◌else◌}
use Rattle.ncl_space.specs.Space.{SpaceData, with_tables}
use Rattle.ncl_match.specs.declared.pair.Pair.{Pair}
use Rattle.ncl_match.specs.declared.steps.Step.{Step}
use Rattle.ncl_match.specs.Covers.{cover_tables}
use Rattle.ncl_match.specs.Inputs.{bit_function}
use Rattle.ncl_match.specs.Pairs.{WordFunction, HasFunction, IsPair, both_tables}
use Rattle.ncl_match.specs.Plan.{pair_at}
use Rattle.ncl_match.specs.Steps.{bit_at, signal_function}
use Rattle.ncl_match.specs.Turns.{gathered}

-- the tables of an input that is marked
abbrev pub first_tables : ℕ → List Bool → ℕ → List (List Bool)
first_tables n marks number = if bit_at marks number then both_tables n (bit_function number) else []

-- the functions of the signals that a step reads
abbrev pub functions_read : List Step → Step → List WordFunction
functions_read steps step = map (signal_function steps) step.ins

-- the tables of the cover of a step whose signal is marked
abbrev pub tables_of_step : ℕ → List Step → List Bool → ℕ → Option Step → List (List Bool)
tables_of_step n steps marks number None = []
tables_of_step n steps marks number (Some step) =
    if bit_at marks number then cover_tables n (functions_read steps step) step.cover.now.rows else []

abbrev pub step_tables : ℕ → List Step → List Bool → ℕ → List (List Bool)
step_tables n steps marks j = tables_of_step n steps marks (n + j) (slice_get steps j)

-- the first inputs are done: exactly their tables came, and those that are marked have their functions
pub record HaveBits (old now : SpaceData) (marks : List Bool) (pairs : List Pair) (place : ℕ) : Type 0 where
  pub held : now.held ≡ with_tables old (gathered (first_tables old.width marks) place)
  pub many : length pairs ≡ place
  pub are_pairs : All (IsPair now) pairs
  pub have : (x : ℕ) → x < place → bit_at marks x ≡ true → HasFunction now (pair_at pairs x) (bit_function x)

-- the signals so far that are marked have their functions
abbrev pub HaveSignals : SpaceData → List Step → List Bool → List Pair → ℕ → Type 0
HaveSignals s steps marks pairs count = (x : ℕ) → x < count → bit_at marks x ≡ true → HasFunction s (pair_at pairs x) (signal_function steps x)

-- the first steps are done: exactly their tables came, and the marked signals up to there have their functions
pub record HaveSteps (old now : SpaceData) (steps : List Step) (marks : List Bool) (pairs : List Pair) (place : ℕ) : Type 0 where
  pub held : now.held ≡ with_tables old (gathered (step_tables old.width steps marks) place)
  pub many : length pairs ≡ old.width + place
  pub are_pairs : All (IsPair now) pairs
  pub have : HaveSignals now steps marks pairs (old.width + place)
