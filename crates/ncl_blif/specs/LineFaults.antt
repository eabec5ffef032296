-- What breaks a line, in the order in which it is asked.
use Rattle.std.specs.Prelude.{ℕ, List, [], ◌∷◌, ◌++◌, Bool, false, not, ◌&&◌, ◌||◌, ◌==◌, if◌then◌else◌, Option, Some, None, length, codes, zero, suc}
use Rattle.std.specs.List.{flat_map, list_any, list_all}
use Rattle.std.specs.Str.{bytes_eq}
use Rattle.std.specs.Option.{option_or}
use Rattle.ncl_blif.specs.declared.fault.BlifFault.{BlifFault}
use Rattle.ncl_blif.specs.declared.fault.BlifFault.TheVariants.{Syntax, Unsupported, BadRow, MixedCover, TwoDrivers}
use Rattle.ncl_blif.specs.Line.{LineData}
use Rattle.ncl_blif.specs.Parts.{PartData, is_row, is_command, is_model, is_inputs, is_names, is_end, parts_of, sections_of}
use Rattle.ncl_blif.specs.Named.{later_fields, last_field, pattern_of, cover_ins, cover_out}

-- whether some name stands twice
abbrev pub has_twins : List (List ℕ) → Bool
has_twins [] = false
has_twins (x ∷ xs) = list_any (bytes_eq x) xs || has_twins xs

-- the signals that a part gives a driver
abbrev pub signals_driven : PartData → List (List ℕ)
signals_driven part =
    if is_inputs part.head then later_fields part.head
    else (if is_names part.head then cover_out part.head ∷ [] else [])

-- whether the model has ended before
abbrev pub has_ended : List PartData → Bool
has_ended before = list_any (λ part. is_end part.head) before

-- whether a command has the wrong number of fields, or follows .end and doesn't begin a model
abbrev pub is_malformed : List PartData → LineData → Bool
is_malformed before line =
    (is_model line && not (length line.fields == 2))
    || ((is_names line && length line.fields == 1)
    || ((is_end line && not (length line.fields == 1))
    || (has_ended before && not (is_model line))))

-- what breaks the command of a part, after the parts of the model before it
abbrev pub head_fault : List PartData → PartData → Option BlifFault
head_fault before part =
    if not (is_command part.head) then Some (Unsupported part.head.number)
    else (if is_malformed before part.head then Some (Syntax part.head.number)
    else (if has_twins (flat_map signals_driven (before ++ part ∷ [])) then Some (TwoDrivers part.head.number)
    else None))

-- whether a byte is a character of a row
abbrev pub is_literal : ℕ → Bool
is_literal b = b == 48 || (b == 49 || b == 45)

-- whether a field is 0 or 1
abbrev pub is_value : List ℕ → Bool
is_value field = bytes_eq field (codes "0") || bytes_eq field (codes "1")

-- whether fields are a row of a cover of this many inputs: a pattern, in which each input has its 0, 1 or -, before a
-- last field that is a bit; of a cover that has no inputs that last field alone
abbrev pub is_row_of : ℕ → List (List ℕ) → Bool
is_row_of zero fields = length fields == 1 && is_value (last_field fields)
is_row_of (suc n) fields =
    length fields == 2
    && (length (pattern_of fields) == suc n && list_all is_literal (pattern_of fields))
    && is_value (last_field fields)

-- what breaks a row of a cover of this many inputs whose first row is this one
abbrev pub row_fault : ℕ → LineData → LineData → Option BlifFault
row_fault inputs first row =
    if not (is_row_of inputs row.fields) then Some (BadRow row.number)
    else (if bytes_eq (last_field row.fields) (last_field first.fields) then None
    else Some (MixedCover row.number))

-- what breaks the first broken one of rows of a cover
abbrev pub first_row_fault : ℕ → LineData → List LineData → Option BlifFault
first_row_fault inputs first [] = None
first_row_fault inputs first (row ∷ rows) =
    option_or (row_fault inputs first row) (first_row_fault inputs first rows)

-- what breaks the rows of a part. Rows stand after .names alone
abbrev pub rows_fault : LineData → List LineData → Option BlifFault
rows_fault head [] = None
rows_fault head (row ∷ rows) =
    if is_names head then first_row_fault (length (cover_ins head)) row (row ∷ rows)
    else Some (Syntax row.number)

-- what breaks a part, after the parts of the model before it
abbrev pub part_fault : List PartData → PartData → Option BlifFault
part_fault before part = option_or (head_fault before part) (rows_fault part.head part.rows)

-- what breaks the first broken one of parts, after the parts of the model before them
abbrev pub first_part_fault : List PartData → List PartData → Option BlifFault
first_part_fault before [] = None
first_part_fault before (part ∷ parts) =
    option_or (part_fault before part) (first_part_fault (before ++ part ∷ []) parts)

-- what breaks the first broken one of models, each its parts
abbrev pub first_section_fault : List (List PartData) → Option BlifFault
first_section_fault [] = None
first_section_fault (section ∷ sections) =
    option_or (first_part_fault [] section) (first_section_fault sections)

-- what breaks the first broken line. A row has to stand after a command, and there has to be a line
abbrev pub first_line_fault : List LineData → Option BlifFault
first_line_fault [] = Some (Syntax 0)
first_line_fault (line ∷ lines) =
    if is_row line then Some (Syntax line.number)
    else first_section_fault (sections_of (parts_of (line ∷ lines)))
