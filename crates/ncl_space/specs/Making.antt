-- Lists of functions that a caller makes in a space.
use Rattle.std.specs.Prelude.{◌≡◌, List, Bool, All, map}
use Rattle.ncl_space.specs.Space.{SpaceData, IsLive, with_tables}
use Rattle.ncl_space.specs.declared.space.Ref.{Ref}

-- the Refs are live, and their tables are these, in order
pub record HaveTables (s : SpaceData) (refs : List Ref) (shown : List (List Bool)) : Type 0 where
  pub live : All (IsLive s) refs
  pub tables : map s.table refs ≡ shown

-- the Refs have the tables that were asked for, in order, and exactly the beads of these tables came
pub record MakesAll (old new : SpaceData) (refs : List Ref) (made : List (List Bool)) : Type 0 where
  pub refs_of : HaveTables new refs made
  pub held : new.held ≡ with_tables old made

-- some live Ref has the table
abbrev pub IsNamed : SpaceData → List Bool → Type 0
IsNamed s t = (r : Ref) × IsLive s r × (s.table r ≡ t)
