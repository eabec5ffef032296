-- What a caller has made where only the sort of its tables is told, not their order.
use Rattle.std.specs.Prelude.{◌≡◌, List, [], ◌∷◌, Bool, false, All}
use Rattle.ncl_space.specs.Beads.{distinct_beads}
use Rattle.ncl_space.specs.Table.{words, table_of}
use Rattle.ncl_space.specs.Space.{SpaceData, Within, with_tables, fits}
use Rattle.ncl_match.specs.Pairs.{WordFunction, inverse}

-- exactly the beads of some tables came, each of them of this sort
pub record Gathers (Is : List Bool → Type 0) (old now : SpaceData) : Type 0 where
  pub tables : List (List Bool)
  pub each : All Is tables
  pub held : now.held ≡ with_tables old tables

-- some tables of this sort could not be held besides
pub record Overflows (Is : List Bool → Type 0) (old : SpaceData) : Type 0 where
  pub tables : List (List Bool)
  pub each : All Is tables
  pub over : fits old tables ≡ false

-- the beads of a table are held
abbrev pub IsHeld : SpaceData → List Bool → Type 0
IsHeld s table = Within (distinct_beads s.width (table ∷ [])) s.held

-- those of a function and of its complement are
pub record AreHeld (s : SpaceData) (f : WordFunction) : Type 0 where
  pub one : IsHeld s (table_of (words s.width) f)
  pub zero : IsHeld s (table_of (words s.width) (inverse f))
