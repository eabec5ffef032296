-- Lines of a text, and the fields of a line, which stand between blanks and tabs.
use Rattle.std.specs.Prelude.{ℕ, List, Bool, ◌||◌, ◌==◌, length, filter, nat_lt}
use Rattle.std.specs.List.{slice_split}

-- a line's text with its number, before it falls into fields
pub record NumberedText : Type 0 where
  pub number : ℕ
  pub text : List ℕ

-- whether a byte is a blank or a tab
abbrev pub is_blank : ℕ → Bool
is_blank b = b == 32 || b == 9

-- the fields of a text: what stands between blanks and tabs and isn't empty
abbrev pub fields_of : List ℕ → List (List ℕ)
fields_of text = filter (λ field. nat_lt 0 (length field)) (slice_split is_blank text)
