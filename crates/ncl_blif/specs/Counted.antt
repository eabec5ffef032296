-- The fields of a text without their lines, and how many fields each line has.
use Rattle.std.specs.Prelude.{◌≡◌, ℕ, List, length, map}
use Rattle.std.specs.List.{flat_map}
use Rattle.ncl_blif.specs.declared.line.Count.{Count}
use Rattle.ncl_blif.specs.Line.{LineData}

-- the number of a line, and how many fields it has
abbrev pub count_of : LineData → Count
count_of line = record { number = line.number; fields = length line.fields }

-- the fields are those of the lines, one line after another, and these are the counts of the lines
pub record AreCounted (lines : List LineData) (fields : List (List ℕ)) (counts : List Count) : Type 0 where
  pub fields_are : fields ≡ flat_map (λ line. line.fields) lines
  pub counts_are : counts ≡ map count_of lines
