-- The models of a text are together no larger than the text.
use Rattle.ncl_blif.proofs.Terms.{Bool, LineData, List, Lit, NamedCover, NamedOutput, PartData, [], arith, begins_model, bytes_eq-Decides, cases_Bool, codes, cond, cover_ins, cover_of, covers_said, drivers_of, false, first_field, flat_map, inl, inputs_said, inr, is_inputs, is_names, is_outputs, is_row, later_fields, length, length-append, length-drop, length-map, length-take, lines_of, lit_of, lits_of, map, models_said, named_model, named_sections, not, outputs_said, parts_of, pattern_of, sections_of, size_of_named, sum_by, sum_by-append, sum_by-cons, take_while, take_while-cons, true, unnamed_section, up_to_model, weight_of_rows, ℕ, ◌+◌, ◌-◌, ◌∷◌, ◌≤◌}
use Rattle.ncl_blif.proofs.FieldSizes.{share, lines_of-size}

-- a part's share: those of its lines
abbrev pub part_share : PartData → ℕ
part_share part = share part.head + sum_by share part.rows

-- and that of parts
abbrev pub parts_share : List PartData → ℕ
parts_share parts = sum_by part_share parts

-- an output that a line says
abbrev output : ℕ → List ℕ → NamedOutput
output line signal = record { line = line; signal = signal }

-- a cover, the signals that it reads, and its rows
abbrev cover_size : NamedCover → ℕ
cover_size cover = 1 + length cover.ins + weight_of_rows cover.rows

-- the rows before the next part, and the parts, are no more than the lines
rows-parts : (lines : List LineData) → sum_by share (take_while is_row lines) + parts_share (parts_of lines) ≤ sum_by share lines
rows-parts [] = omega arith
rows-parts (line ∷ lines) =
    rw (take_while-cons is_row line lines) (step (is_row line) (rows-parts lines))
  where
    step : (b : Bool) → sum_by share (take_while is_row lines) + parts_share (parts_of lines) ≤ sum_by share lines
        → sum_by share (cond b (line ∷ take_while is_row lines) []) + parts_share (cond b (parts_of lines) (record { head = line; rows = take_while is_row lines } ∷ parts_of lines)) ≤ sum_by share (line ∷ lines)
    step true rest = omega (arith, sum_by-cons share line (take_while is_row lines), sum_by-cons share line lines)
    step false rest = omega (arith, sum_by-cons part_share (record { head = line; rows = take_while is_row lines }) (parts_of lines), sum_by-cons share line lines)

-- the parts of lines have no more than their shares
pub parts_of-size : (lines : List LineData) → parts_share (parts_of lines) ≤ sum_by share lines
parts_of-size lines = let all = rows-parts lines in omega arith

rows-size : (rows : List LineData) → weight_of_rows (map (λ row. lits_of row.fields) rows) ≤ sum_by share rows
rows-size [] = omega arith
rows-size (row ∷ rows) =
    let rest : weight_of_rows (map (λ row. lits_of row.fields) rows) ≤ sum_by share rows = rows-size rows in
    omega (arith, sum_by-cons (λ (lits : List Lit). 1 + length lits) (lits_of row.fields) (map (λ row. lits_of row.fields) rows), sum_by-cons share row rows, length-map (pattern_of row.fields) lit_of)

-- what a part says
abbrev said_size : PartData → ℕ
said_size part = length (inputs_said part) + length (outputs_said part) + sum_by cover_size (covers_said part)

later-size : (line : LineData) → length (later_fields line) ≤ share line
later-size line = omega (arith, length-drop 1 line.fields)

-- a cover is no larger than the share of its part
cover-size : (part : PartData) → cover_size (cover_of part) ≤ part_share part
cover-size part =
    let ins : 1 + length (cover_ins part.head) ≤ share part.head = omega (arith, length-take (length (later_fields part.head) - 1) (later_fields part.head), length-drop 1 part.head.fields) in
    let rows = rows-size part.rows in
    omega arith

-- what a part says is no more than its share
part-size : (part : PartData) → said_size part ≤ part_share part
part-size part = elim (cases_Bool (is_inputs part.head)) [
  | inl inputs ↦ rw ((bytes_eq-Decides (first_field part.head) (codes ".inputs")).0 inputs) (let later = later-size part.head in omega arith)
  | inr inputs ↦ elim (cases_Bool (is_outputs part.head)) [
    | inl outputs ↦ rw ((bytes_eq-Decides (first_field part.head) (codes ".outputs")).0 outputs)
        (let later = later-size part.head in omega (arith, length-map (later_fields part.head) (λ signal. output part.head.number signal)))
    | inr outputs ↦ elim (cases_Bool (is_names part.head)) [
      | inl names ↦ rw ((bytes_eq-Decides (first_field part.head) (codes ".names")).0 names) (let cover = cover-size part in omega arith)
      | inr names ↦ rw (inputs, outputs, names) (omega arith)
    ]
  ]
]

-- what parts say is no more than their shares
pub named-size : (parts : List PartData) → size_of_named (named_model parts) ≤ parts_share parts
named-size [] = omega arith
named-size (part ∷ parts) =
    let rest : size_of_named (named_model parts) ≤ parts_share parts = named-size parts in
    let here = part-size part in
    omega (arith, length-append (inputs_said part) (flat_map inputs_said parts), length-append (outputs_said part) (flat_map outputs_said parts), sum_by-append cover_size (covers_said part) (flat_map covers_said parts), sum_by-cons part_share part parts)

-- the parts before the next model, and the models, have no more than the parts' shares
before-models : (parts : List PartData) → parts_share (up_to_model parts) + sum_by parts_share (named_sections parts) ≤ parts_share parts
before-models [] = omega arith
before-models (part ∷ parts) =
    rw (take_while-cons (λ part. not (begins_model part)) part parts) (step (begins_model part) (before-models parts))
  where
    step : (b : Bool) → parts_share (up_to_model parts) + sum_by parts_share (named_sections parts) ≤ parts_share parts
        → parts_share (cond (not b) (part ∷ up_to_model parts) []) + sum_by parts_share (cond b ((part ∷ up_to_model parts) ∷ named_sections parts) (named_sections parts)) ≤ parts_share (part ∷ parts)
    step true rest = omega (arith, sum_by-cons parts_share (part ∷ up_to_model parts) (named_sections parts), sum_by-cons part_share part (up_to_model parts), sum_by-cons part_share part parts)
    step false rest = omega (arith, sum_by-cons part_share part (up_to_model parts), sum_by-cons part_share part parts)

-- and so have the models with the one that has no name
pub sections-size : (parts : List PartData) → sum_by parts_share (sections_of parts) ≤ parts_share parts
sections-size parts =
    let all = before-models parts in
    let unnamed = unnamed-size (up_to_model parts) in
    omega (arith, sum_by-append parts_share (unnamed_section (up_to_model parts)) (named_sections parts))
  where
    unnamed-size : (parts : List PartData) → sum_by parts_share (unnamed_section parts) ≤ parts_share parts
    unnamed-size [] = omega arith
    unnamed-size (part ∷ parts) = omega arith

named-sizes : (sections : List (List PartData)) → sum_by size_of_named (map named_model sections) ≤ sum_by parts_share sections
named-sizes [] = omega arith
named-sizes (section ∷ sections) =
    let rest : sum_by size_of_named (map named_model sections) ≤ sum_by parts_share sections = named-sizes sections in
    omega (arith, sum_by-cons size_of_named (named_model section) (map named_model sections), sum_by-cons parts_share section sections, named-size section)

-- the models that a text says are together no larger than its bytes
pub models_said-size : (text : List ℕ) → sum_by size_of_named (models_said text) ≤ length text
models_said-size text =
    let lines = lines_of-size text in
    let parts = parts_of-size (lines_of text) in
    let sections = sections-size (parts_of (lines_of text)) in
    let models = named-sizes (sections_of (parts_of (lines_of text))) in
    omega arith

covers-count : (covers : List NamedCover) → length covers ≤ sum_by cover_size covers
covers-count [] = omega arith
covers-count (cover ∷ covers) =
    let rest : length covers ≤ sum_by cover_size covers = covers-count covers in
    omega (arith, sum_by-cons cover_size cover covers)

-- the signals that the parts of a text give a driver are no more than its bytes
pub drivers-size : (text : List ℕ) → length (drivers_of (named_model (parts_of (lines_of text)))) ≤ length text
drivers-size text =
    let model = named_model (parts_of (lines_of text)) in
    let lines = lines_of-size text in
    let parts = parts_of-size (lines_of text) in
    let said = named-size (parts_of (lines_of text)) in
    let covers = covers-count model.covers in
    omega (arith, length-append model.inputs (map (λ (cover : NamedCover). cover.out) model.covers), length-map model.covers (λ (cover : NamedCover). cover.out))
