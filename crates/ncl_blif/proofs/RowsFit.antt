-- Where no line is broken, each row has as many literals as its cover reads signals.
use Rattle.ncl_blif.proofs.Terms.{All, All-from_recursion, AllByRecursion, Bool, LineData, List, Lit, NamedCover, None, Option, PartData, Some, Syntax, [], and_parts, arith, cond, cover_ins, cover_of, covers_said, eqb, eqb-true, false, first_line_fault, first_part_fault, first_row_fault, first_section_fault, flat_map, head_fault, is_names, is_row, is_row_of, length, length-map, lit_of, lits_of, map, named_model, not, option_or-none, part_fault, parts_of, pattern_of, refl, row_fault, rows_fault, sections_of, subst, suc, true, zero, ℕ, ◌++◌, ◌∙◌, ◌∷◌, ◌≡◌}
use Rattle.ncl_blif.proofs.ModelFacts.{RowsFit}

missing_if_not : {X : Type 0} (b : Bool) (x : X) (rest : Option X) → cond (not b) (Some x) rest ≡ None → b ≡ true
missing_if_not true x rest h = refl
missing_if_not false x rest h = absurd cc

pub fails_then : {X : Type 0} (b : Bool) (x : X) (rest : Option X) → cond b (Some x) rest ≡ None → rest ≡ None
fails_then true x rest h = absurd cc
fails_then false x rest h = h

-- a row of a cover has as many literals as there are inputs
row_width : (inputs : ℕ) (fields : List (List ℕ)) → is_row_of inputs fields ≡ true → length (lits_of fields) ≡ inputs
row_width zero [] h = absurd cc
row_width zero (w ∷ []) h = refl
row_width zero (w ∷ v ∷ fields) h = absurd (let e = eqb-true (length (w ∷ v ∷ fields)) 1 (and_parts _ _ h).0 in omega arith)
row_width (suc n) fields h =
    let shaped = (and_parts (eqb (length fields) 2) _ (and_parts _ _ h).0).1 in
    length-map (pattern_of fields) lit_of ∙ eqb-true (length (pattern_of fields)) (suc n) (and_parts _ _ shaped).0

-- rows without a fault have as many literals as there are inputs
abbrev Wide : ℕ → List Lit → Type 0
Wide inputs row = length row ≡ inputs

rows_wide : (inputs : ℕ) (first : LineData) (rows : List LineData) → first_row_fault inputs first rows ≡ None → AllByRecursion (Wide inputs) (map (λ row. lits_of row.fields) rows)
rows_wide inputs first [] h = tt
rows_wide inputs first (row ∷ rows) h =
    let (here, later) = option_or-none (row_fault inputs first row) (first_row_fault inputs first rows) h in
    (row_width inputs row.fields (missing_if_not (is_row_of inputs row.fields) _ _ here), rows_wide inputs first rows later)

-- the cover of a part without a fault
abbrev Fits : NamedCover → Type 0
Fits cover = All (Wide (length cover.ins)) cover.rows

part_wide : (head : LineData) (rows : List LineData) → is_names head ≡ true → rows_fault head rows ≡ None → AllByRecursion (Wide (length (cover_ins head))) (map (λ row. lits_of row.fields) rows)
part_wide head [] names h = tt
part_wide head (row ∷ rows) names h =
    rows_wide (length (cover_ins head)) row (row ∷ rows) (subst (λ b. cond b (first_row_fault (length (cover_ins head)) row (row ∷ rows)) (Some (Syntax row.number)) ≡ None) names h)

covers_fit : (before parts : List PartData) → first_part_fault before parts ≡ None → AllByRecursion Fits (flat_map covers_said parts)
covers_fit before [] h = tt
covers_fit before (part ∷ parts) h =
    let (here, later) = option_or-none (part_fault before part) (first_part_fault (before ++ part ∷ []) parts) h in
    let rest = covers_fit (before ++ part ∷ []) parts later in
    elim (is_names part.head) as (λ b. is_names part.head ≡ b → AllByRecursion Fits (cond b (cover_of part ∷ []) [] ++ flat_map covers_said parts)) [
      | true ↦ λ names. (
        All-from_recursion (Wide (length (cover_ins part.head))) (map (λ row. lits_of row.fields) part.rows)
            (part_wide part.head part.rows names (option_or-none (head_fault before part) (rows_fault part.head part.rows) here).1),
        rest,
      )
      | false ↦ λ other. rest
    ] refl

sections_fit : (sections : List (List PartData)) → first_section_fault sections ≡ None → AllByRecursion RowsFit (map named_model sections)
sections_fit [] h = tt
sections_fit (section ∷ sections) h =
    let (here, later) = option_or-none (first_part_fault [] section) (first_section_fault sections) h in
    (All-from_recursion Fits (flat_map covers_said section) (covers_fit [] section here), sections_fit sections later)

-- where no line is broken, each row of each model has as many literals as its cover reads signals
pub all_rows_fit : (lines : List LineData) → first_line_fault lines ≡ None → All RowsFit (map named_model (sections_of (parts_of lines)))
all_rows_fit [] h = absurd cc
all_rows_fit (line ∷ lines) h =
    let sections = sections_of (parts_of (line ∷ lines)) in
    let none : first_section_fault sections ≡ None = fails_then (is_row line) _ _ h in
    All-from_recursion RowsFit (map named_model sections) (sections_fit sections none)
