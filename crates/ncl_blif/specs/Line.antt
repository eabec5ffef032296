-- A line of a text.
use Rattle.std.specs.Prelude.{ℕ, List}

-- a line that has fields: its number, counted from 1, and the fields
pub record LineData : Type 0 where
  pub number : ℕ
  pub fields : List (List ℕ)
