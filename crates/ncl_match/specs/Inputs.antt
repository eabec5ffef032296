-- The functions of the rails of the inputs.
use Rattle.std.specs.Prelude.{◌≡◌, ℕ, ◌<◌, List, [], Bool, true, false, ◌||◌, slice_index_or, if◌then◌else◌}
use Rattle.ncl_shape.specs.declared.rails.Rails.{Rails}
use Rattle.ncl_cell_roles.specs.Layout.{no_rails, rail_at}
use Rattle.ncl_space.specs.Functions.{is_value}
use Rattle.ncl_space.specs.Space.{SpaceData, with_tables}
use Rattle.ncl_match.specs.declared.pair.Pair.{Pair}
use Rattle.ncl_match.specs.Pairs.{WordFunction, HasFunction, both_tables}
use Rattle.ncl_match.specs.Plan.{is_marked, pair_at}
use Rattle.ncl_match.specs.Turns.{gathered}

-- a bit of the word
abbrev pub bit_function : ℕ → WordFunction
bit_function bit word = slice_index_or word bit false

-- one of the rails is marked
abbrev pub is_needed : List Bool → Rails → Bool
is_needed marks r = is_marked marks r.zero.0 || is_marked marks r.one.0

-- the tables of a bit one of whose rails is marked
abbrev pub bit_tables : ℕ → List Bool → Rails → ℕ → List (List Bool)
bit_tables n marks r bit = if is_needed marks r then both_tables n (bit_function bit) else []

abbrev pub input_tables : ℕ → List Rails → List Bool → ℕ → List (List Bool)
input_tables n inputs marks bit = bit_tables n marks (slice_index_or inputs bit no_rails) bit

-- the first bits are done: exactly their tables came, and the rails of those that are needed have their functions
pub record HaveInputs (old now : SpaceData) (inputs : List Rails) (marks : List Bool) (pairs : List Pair) (place : ℕ) : Type 0 where
  pub held : now.held ≡ with_tables old (gathered (input_tables old.width inputs marks) place)
  pub have : (b : ℕ) (r : Bool) → b < place → is_needed marks (slice_index_or inputs b no_rails) ≡ true → HasFunction now (pair_at pairs (rail_at inputs b r)) (λ word. is_value r (bit_function b word))
