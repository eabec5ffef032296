-- What the lines of a text are: commands, each with the rows that follow it, and models of these
-- (Berkeley BLIF).
use Rattle.std.specs.Prelude.{ℕ, List, [], ◌∷◌, ◌++◌, Bool, false, not, ◌||◌, ◌==◌, if◌then◌else◌, codes, slice_get, unwrap_or}
use Rattle.std.specs.List.{take_while}
use Rattle.std.specs.Str.{bytes_eq}
use Rattle.ncl_blif.specs.Line.{LineData}

-- the first field of a line
abbrev pub first_field : LineData → List ℕ
first_field line = unwrap_or (slice_get line.fields 0) []

-- whether the first field of a line is this one
abbrev pub begins_with : List ℕ → LineData → Bool
begins_with field line = bytes_eq (first_field line) field

-- whether a field begins with a dot
abbrev pub has_dot : List ℕ → Bool
has_dot [] = false
has_dot (b ∷ bs) = b == 46

-- whether a line is a row: its first field doesn't begin with a dot
abbrev pub is_row : LineData → Bool
is_row line = not (has_dot (first_field line))

abbrev pub is_model : LineData → Bool
is_model = begins_with (codes ".model")

abbrev pub is_inputs : LineData → Bool
is_inputs = begins_with (codes ".inputs")

abbrev pub is_outputs : LineData → Bool
is_outputs = begins_with (codes ".outputs")

abbrev pub is_names : LineData → Bool
is_names = begins_with (codes ".names")

abbrev pub is_end : LineData → Bool
is_end = begins_with (codes ".end")

-- whether a line begins with one of the five commands that are read
abbrev pub is_command : LineData → Bool
is_command line = is_model line || (is_inputs line || (is_outputs line || (is_names line || is_end line)))

-- a line that is no row, and the rows that follow it
pub record PartData : Type 0 where
  pub head : LineData
  pub rows : List LineData

-- the parts of lines. Rows before the first line that is none belong to no part
abbrev pub parts_of : List LineData → List PartData
parts_of [] = []
parts_of (line ∷ lines) =
    if is_row line then parts_of lines
    else record { head = line; rows = take_while is_row lines } ∷ parts_of lines

-- whether a part is the first of a model
abbrev pub begins_model : PartData → Bool
begins_model part = is_model part.head

-- the parts up to the next model
abbrev pub up_to_model : List PartData → List PartData
up_to_model parts = take_while (λ part. not (begins_model part)) parts

-- the models that begin with .model, each with its parts, that of the command included
abbrev pub named_sections : List PartData → List (List PartData)
named_sections [] = []
named_sections (part ∷ parts) =
    if begins_model part then (part ∷ up_to_model parts) ∷ named_sections parts else named_sections parts

-- a model of these parts, where there are any
abbrev pub unnamed_section : List PartData → List (List PartData)
unnamed_section [] = []
unnamed_section (part ∷ parts) = (part ∷ parts) ∷ []

-- the models of a text, each with its parts: those before the first .model are a model without a name
abbrev pub sections_of : List PartData → List (List PartData)
sections_of parts = unnamed_section (up_to_model parts) ++ named_sections parts
