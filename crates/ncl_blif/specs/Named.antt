-- A model as its lines say it: signals go by their names.
use Rattle.std.specs.Prelude.{ℕ, ◌+◌, ◌-◌, List, [], ◌∷◌, ◌++◌, Bool, true, None, ◌==◌, if◌then◌else◌, length, map, take, drop, codes, slice_get, unwrap_or, sum_by}
use Rattle.std.specs.List.{flat_map, last_or}
use Rattle.std.specs.Str.{bytes_eq}
use Rattle.ncl_blif.specs.declared.model.Lit.{Lit}
use Rattle.ncl_blif.specs.declared.model.Lit.TheVariants.{Zero, One, Dash}
use Rattle.ncl_blif.specs.Model.{weight_of_rows}
use Rattle.ncl_blif.specs.Line.{LineData}
use Rattle.ncl_blif.specs.Parts.{PartData, is_inputs, is_outputs, is_names, is_model}

-- the fields of a line after the first
abbrev pub later_fields : LineData → List (List ℕ)
later_fields line = drop 1 line.fields

-- the last of some fields
abbrev pub last_field : List (List ℕ) → List ℕ
last_field fields = unwrap_or (last_or None fields) []

-- all fields but the last
abbrev pub front_fields : List (List ℕ) → List (List ℕ)
front_fields fields = take (length fields - 1) fields

-- the signals that a cover's command says that it reads, in order, and the signal that it drives
abbrev pub cover_ins : LineData → List (List ℕ)
cover_ins line = front_fields (later_fields line)

abbrev pub cover_out : LineData → List ℕ
cover_out line = last_field (later_fields line)

-- the literal of a character of a row
abbrev pub lit_of : ℕ → Lit
lit_of b = if b == 48 then Zero else (if b == 49 then One else Dash)

-- the characters of a row for the inputs: the field before the last, or none
abbrev pub pattern_of : List (List ℕ) → List ℕ
pattern_of fields = last_field (front_fields fields)

-- the literals of a row
abbrev pub lits_of : List (List ℕ) → List Lit
lits_of fields = map lit_of (pattern_of fields)

-- whether a row is of the ON-set: it ends with 1
abbrev pub is_on : LineData → Bool
is_on row = bytes_eq (last_field row.fields) (codes "1")

-- whether the rows list the ON-set, by the first of them. Where there is none either would do
abbrev pub lists_on : List LineData → Bool
lists_on [] = true
lists_on (row ∷ rows) = is_on row

-- a cover, with the number of the line that begins it
pub record NamedCover : Type 0 where
  pub line : ℕ
  pub ins : List (List ℕ)
  pub out : List ℕ
  pub on : Bool
  pub rows : List (List Lit)

-- a signal that is an output, with the number of the line that says so
pub record NamedOutput : Type 0 where
  pub line : ℕ
  pub signal : List ℕ

pub record NamedModel : Type 0 where
  pub name : List ℕ
  pub inputs : List (List ℕ)
  pub outputs : List NamedOutput
  pub covers : List NamedCover

-- what a part says: inputs, outputs, or a cover
abbrev pub inputs_said : PartData → List (List ℕ)
inputs_said part = if is_inputs part.head then later_fields part.head else []

abbrev pub outputs_said : PartData → List NamedOutput
outputs_said part =
    if is_outputs part.head
    then map (λ signal. record { line = part.head.number; signal = signal }) (later_fields part.head)
    else []

abbrev pub cover_of : PartData → NamedCover
cover_of part = record {
  line = part.head.number;
  ins = cover_ins part.head;
  out = cover_out part.head;
  on = lists_on part.rows;
  rows = map (λ row. lits_of row.fields) part.rows;
}

abbrev pub covers_said : PartData → List NamedCover
covers_said part = if is_names part.head then cover_of part ∷ [] else []

-- the name of a model: what its .model says, or none
abbrev pub name_said : List PartData → List ℕ
name_said [] = []
name_said (part ∷ parts) = if is_model part.head then unwrap_or (slice_get part.head.fields 1) [] else []

-- the model that these parts say
abbrev pub named_model : List PartData → NamedModel
named_model parts = record {
  name = name_said parts;
  inputs = flat_map inputs_said parts;
  outputs = flat_map outputs_said parts;
  covers = flat_map covers_said parts;
}

-- the signals that have a driver, in the order of their numbers: the inputs, and what the covers drive
abbrev pub drivers_of : NamedModel → List (List ℕ)
drivers_of model = model.inputs ++ map (λ cover. cover.out) model.covers

-- how much of a model there is: its inputs, its outputs, its covers, the signals that these read, and the
-- weight of the rows
abbrev pub size_of_named : NamedModel → ℕ
size_of_named model =
    length model.inputs + length model.outputs
    + sum_by (λ cover. 1 + length cover.ins + weight_of_rows cover.rows) model.covers
