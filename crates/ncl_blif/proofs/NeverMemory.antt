-- No text is refused for want of memory.
use Rattle.ncl_blif.proofs.Terms.{BlifFault, Bool, IsModelFault, IsRefused, LineData, List, MixedCover, NamedModel, None, Option, OutOfMemory, PartData, Some, Syntax, [], ap, bytes_eq, cond, cover_ins, cycle, false, first_line_fault, first_part_fault, first_row_fault, first_section_fault, flat_map, has_twins, head_fault, is_command, is_malformed, is_names, is_row, is_row_of, last_field, length, line, lines_of, model, no_bits, not, option_or, parts_of, refl, row_fault, rows_fault, sections_of, signals_driven, true, undriven, width, ℕ, ◌++◌, ◌+◌, ◌∙◌, ◌∷◌, ◌≡◌}

-- want of memory breaks no line
abbrev NotMemory : Option BlifFault → Type 0
NotMemory found = found ≡ Some OutOfMemory → ⊥

either : (a b : Option BlifFault) → NotMemory a → NotMemory b → NotMemory (option_or a b)
either None b first second = second
either (Some x) b first second = first

first_of : (b : Bool) (x : BlifFault) (rest : Option BlifFault) → (x ≡ OutOfMemory → ⊥) → NotMemory rest → NotMemory (cond b (Some x) rest)
first_of true x rest first second = λ e. first cc
first_of false x rest first second = second

no_fault : NotMemory None
no_fault e = absurd cc

row_not : (inputs : ℕ) (first row : LineData) → NotMemory (row_fault inputs first row)
row_not inputs first row =
    first_of (not (is_row_of inputs row.fields)) _ _ (λ e. cc)
    (elim (bytes_eq (last_field row.fields) (last_field first.fields)) as (λ b. NotMemory (cond b None (Some (MixedCover row.number)))) [ true ↦ no_fault | false ↦ λ e. cc ])

rows_not : (inputs : ℕ) (first : LineData) (rows : List LineData) → NotMemory (first_row_fault inputs first rows)
rows_not inputs first [] = no_fault
rows_not inputs first (row ∷ rows) = either _ _ (row_not inputs first row) (rows_not inputs first rows)

after_head_not : (head : LineData) (rows : List LineData) → NotMemory (rows_fault head rows)
after_head_not head [] = no_fault
after_head_not head (row ∷ rows) =
    elim (is_names head) as (λ b. NotMemory (cond b (first_row_fault (length (cover_ins head)) row (row ∷ rows)) (Some (Syntax row.number)))) [
      | true ↦ rows_not (length (cover_ins head)) row (row ∷ rows)
      | false ↦ λ e. cc
    ]

head_not : (before : List PartData) (part : PartData) → NotMemory (head_fault before part)
head_not before part =
    first_of (not (is_command part.head)) _ _ (λ e. cc) (first_of (is_malformed before part.head) _ _ (λ e. cc)
    (first_of (has_twins (flat_map signals_driven (before ++ part ∷ []))) _ _ (λ e. cc) no_fault))

parts_not : (before parts : List PartData) → NotMemory (first_part_fault before parts)
parts_not before [] = no_fault
parts_not before (part ∷ parts) =
    either _ _ (either _ _ (head_not before part) (after_head_not part.head part.rows)) (parts_not (before ++ part ∷ []) parts)

sections_not : (sections : List (List PartData)) → NotMemory (first_section_fault sections)
sections_not [] = no_fault
sections_not (section ∷ sections) = either _ _ (parts_not [] section) (sections_not sections)

lines_not : (lines : List LineData) → NotMemory (first_line_fault lines)
lines_not [] = λ e. cc
lines_not (first ∷ others) = first_of (is_row first) _ _ (λ e. cc) (sections_not (sections_of (parts_of (first ∷ others))))

model_not : (number : ℕ) (m : NamedModel) (fault : BlifFault) → IsModelFault number m fault → fault ≡ OutOfMemory → ⊥
model_not number m fault (no_bits none) = λ e. cc
model_not number m fault (undriven at bits some) = λ e. cc
model_not number m fault (cycle at bits driven first) = λ e. cc

refused_not : (text : List ℕ) (fault : BlifFault) → IsRefused text fault → fault ≡ OutOfMemory → ⊥
refused_not text fault (line f at) = λ e. lines_not (lines_of text) (at ∙ ap Some e)
refused_not text fault (model f unbroken first) = model_not (first.place + 1) first.broken f first.breaks
refused_not text fault (width number unbroken fine at) = λ e. cc

-- no text is refused for want of memory
pub never_memory : (text : List ℕ) → IsRefused text OutOfMemory → ⊥
never_memory text refused = refused_not text OutOfMemory refused refl
