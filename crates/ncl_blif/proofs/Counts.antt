-- A text says no more models than it has bytes.
use Rattle.ncl_blif.proofs.Terms.{Bool, LineData, List, PartData, [], arith, begins_model, cond, false, is_row, length, length-le-sum_by, length-map, lines_of, models_said, named_model, named_sections, not, parts_of, sections_of, subst, sym, take_while, take_while-cons, true, unnamed_section, up_to_model, ℕ, ◌++◌, ◌∷◌, ◌≤◌}
use Rattle.ncl_blif.proofs.FieldSizes.{share, lines_of-size}

abbrev goes_on : PartData → Bool
goes_on part = not (begins_model part)

named_count : (parts : List PartData) → length (named_sections parts) ≤ length parts
named_count [] = omega arith
named_count (part ∷ parts) =
    elim (begins_model part) as (λ b. length (cond b ((part ∷ up_to_model parts) ∷ named_sections parts) (named_sections parts)) ≤ length (part ∷ parts)) [
      | true ↦ omega (arith, named_count parts)
      | false ↦ omega (arith, named_count parts)
    ]

sections_count : (parts : List PartData) → length (sections_of parts) ≤ length parts
sections_count [] = omega arith
sections_count (part ∷ parts) =
    let Goal : List PartData → Type 0 = λ front. length (unnamed_section front ++ named_sections (part ∷ parts)) ≤ length (part ∷ parts) in
    subst Goal (sym (take_while-cons goes_on part parts))
    (elim (begins_model part) as (λ b. length (unnamed_section (cond (not b) (part ∷ up_to_model parts) []) ++ cond b ((part ∷ up_to_model parts) ∷ named_sections parts) (named_sections parts)) ≤ length (part ∷ parts)) [
      | true ↦ omega (arith, named_count parts)
      | false ↦ omega (arith, named_count parts)
    ])

parts_count : (rest : List LineData) → length (parts_of rest) ≤ length rest
parts_count [] = omega arith
parts_count (line ∷ rest) =
    elim (is_row line) as (λ b. length (cond b (parts_of rest) (record { head = line; rows = take_while is_row rest } ∷ parts_of rest)) ≤ length (line ∷ rest)) [
      | true ↦ omega (arith, parts_count rest)
      | false ↦ omega (arith, parts_count rest)
    ]

-- a text says no more models than it has bytes
pub models_few : (text : List ℕ) → length (models_said text) ≤ length text
models_few text =
    omega (
      arith,
      length-map (sections_of (parts_of (lines_of text))) named_model,
      sections_count (parts_of (lines_of text)),
      parts_count (lines_of text),
      length-le-sum_by share (λ line. omega arith) (lines_of text),
      lines_of-size text,
    )
