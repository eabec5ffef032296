-- What is kept of how names were declared.
use Rattle.std.specs.Prelude.{◌≡◌, ◌<◌, ℕ, List, Bool, true, false, Option, Some, None}
use Rattle.std.specs.BTreeMap.{get_by}
use Rattle.std.specs.Cmp.Lexicographic.{slice_cmp}
use Rattle.std.specs.Ordering.{nat_cmp}
use Rattle.std.specs.Option.{option_map}
use Rattle.ncl_reader.specs.declared.ranges.Ranges.{Ranges}
use Rattle.ncl_reader.specs.declared.span.Span.{Span}
use Rattle.ncl_reader.specs.Lexemes.{Lexeme}
use Rattle.ncl_reader.specs.Grammar.{Range}
use Rattle.ncl_reader.specs.Vectors.{span_of, IsDeclared}
use Rattle.ncl_reader.specs.NameSet.{has_name}

-- the range of a vector
abbrev pub vector_at : Ranges → List ℕ → Option Span
vector_at ranges x = get_by (λ key. slice_cmp nat_cmp x key.now) ranges.vectors

-- a name is a vector with a range, or has none, or isn't declared
abbrev pub kept_as : Option Span → Bool → Option (Option Span)
kept_as (Some span) plain = Some (Some span)
kept_as None true = Some None
kept_as None false = None

-- what is kept of a name: nothing, or its range or none
abbrev pub range_at : Ranges → List ℕ → Option (Option Span)
range_at ranges x = kept_as (vector_at ranges x) (has_name ranges.plain x)

-- what is kept of each name is what it was declared with
pub record IsRanges (ranges : Ranges) (xs : List Lexeme) : Type 0 where
  pub declared : (x : List ℕ) (range : Option Range) → IsDeclared xs x range → range_at ranges x ≡ Some (option_map span_of range)
  pub small : (x : List ℕ) (span : Span) → range_at ranges x ≡ Some (Some span) → (span.first < 65536) × (span.last < 65536)
  pub only : (x : List ℕ) (span : Option Span) → range_at ranges x ≡ Some span → (range : Option Range) × IsDeclared xs x range × (option_map span_of range ≡ span)
