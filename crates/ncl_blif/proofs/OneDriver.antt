-- Where no line is broken, no signal of a model has two drivers.
use Rattle.ncl_blif.proofs.Terms.{All, All-from_recursion, AllByRecursion, BlifFault, Bool, LineData, List, NamedModel, None, PartData, Some, [], ap, append-nil, append_assoc, cond, drivers_of, false, first_line_fault, first_part_fault, first_section_fault, flat_map, has_twins, head_fault, is_command, is_malformed, is_row, map, named_model, not, option_or-none, part_fault, parts_of, refl, rows_fault, sections_of, signals_driven, sym, true, ◌++◌, ◌∙◌, ◌∷◌, ◌≡◌}
use Rattle.ncl_blif.proofs.RowsFit.{fails_then}
use Rattle.ncl_blif.proofs.PartSteps.{named-same}

-- no signal of a model has two drivers
abbrev pub OneDriver : NamedModel → Type 0
OneDriver m = has_twins (drivers_of m) ≡ false

not_true : (b : Bool) (fault : BlifFault) → cond b (Some fault) None ≡ None → b ≡ false
not_true true fault h = absurd cc
not_true false fault h = refl

head_once : (before : List PartData) (part : PartData) → head_fault before part ≡ None → has_twins (flat_map signals_driven (before ++ part ∷ [])) ≡ false
head_once before part h =
    not_true _ _ (fails_then (is_malformed before part.head) _ _ (fails_then (not (is_command part.head)) _ _ h))

parts_once : (before parts : List PartData) → has_twins (flat_map signals_driven before) ≡ false → first_part_fault before parts ≡ None → has_twins (flat_map signals_driven (before ++ parts)) ≡ false
parts_once before [] once h = ap (λ ps. has_twins (flat_map signals_driven ps)) (append-nil before) ∙ once
parts_once before (part ∷ parts) once h =
    let (here, later) = option_or-none (part_fault before part) (first_part_fault (before ++ part ∷ []) parts) h in
    let head = (option_or-none (head_fault before part) (rows_fault part.head part.rows) here).0 in
    ap (λ ps. has_twins (flat_map signals_driven ps)) (sym (append_assoc before (part ∷ []) parts))
    ∙ parts_once (before ++ part ∷ []) parts (head_once before part head) later

sections_once : (sections : List (List PartData)) → first_section_fault sections ≡ None → AllByRecursion OneDriver (map named_model sections)
sections_once [] h = tt
sections_once (section ∷ sections) h =
    let (here, later) = option_or-none (first_part_fault [] section) (first_section_fault sections) h in
    (sym (named-same section).twins ∙ parts_once [] section refl here, sections_once sections later)

-- where no line is broken, no signal of a model has two drivers
pub one_driver_each : (lines : List LineData) → first_line_fault lines ≡ None → All OneDriver (map named_model (sections_of (parts_of lines)))
one_driver_each [] h = absurd cc
one_driver_each (first ∷ others) h =
    let sections = sections_of (parts_of (first ∷ others)) in
    All-from_recursion OneDriver (map named_model sections) (sections_once sections (fails_then (is_row first) _ _ h))
