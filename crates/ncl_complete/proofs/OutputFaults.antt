-- What the functions of the outputs tell of their faults.
use Rattle.ncl_complete.proofs.Terms.{Base, Bool, BothRails, HaveTables, IsOrderOf, List, NoRail, None, Option, RailFault, Rails, Ref, Some, SpaceData, StageData, [], ap, arith, below, both-shown, data_functions, false, first_below-none, first_below-some, first_of, first_rail_fault_by, found_fault_by, function_tables_by, get_or, get_or-map, has_data, have-at, have-length, illegal_functions, is_illegal, least, least-hidden, least-shown, least_word_by, length, length-map, map, none-shown, option_and_then, option_map, outputs-grouped, placed, rail_fault, table_of, true, val, values_at, words_by, ℕ, ◌<◌, ◌∙◌, ◌∷◌, ◌≡◌}
use Rattle.ncl_complete.specs.declared.rail_fault.RailFault.TheVariants as rail

-- the table of an output, where a function of its rails is asked of each
table-at : (s : StageData) (order : List ℕ) (f : Rails → List Bool → Bool) (space : SpaceData) (refs : List Ref) → HaveTables space refs (function_tables_by order (map f s.outputs)) → (output : ℕ) → output < length s.outputs → (d : Rails) (e : Ref) → space.table (get_or refs output e) ≡ table_of (words_by order) (f (get_or s.outputs output d))
table-at s order f space refs have output lt d e =
    let n : ℕ = length s.inputs in
    let many : length (function_tables_by order (map f s.outputs)) ≡ length s.outputs = length-map (map f s.outputs) (table_of (words_by order)) ∙ length-map s.outputs f in
    let refs_many = have-length space refs (function_tables_by order (map f s.outputs)) have in
    have-at space refs (function_tables_by order (map f s.outputs)) have output e [] (omega arith)
    ∙ get_or-map (table_of (words_by order)) (map f s.outputs) output (f d) [] (omega (arith, length-map s.outputs f))
    ∙ ap (table_of (words_by order)) (get_or-map f s.outputs output d (f d) lt)

pub both-found : (s : StageData) (order : List ℕ) (ordered : IsOrderOf (length s.inputs) order) (space : SpaceData) → space.width ≡ length s.inputs → (refs : List Ref) → HaveTables space refs (function_tables_by order (illegal_functions s (values_at s Base))) → (output : ℕ) → output < length s.outputs → (e : Ref) → option_map (placed order) (least true space.width (space.table (get_or refs output e))) ≡ least_word_by order s (BothRails output)
both-found s order ordered space width refs have output lt e =
    let d : Rails = record { zero = record { 0 = 0 }; one = record { 0 = 0 } } in
    (λ k. option_map (placed order) (least true (width k) (table-at s order (λ r. λ word. is_illegal (val s word Base) r) space refs have output lt d e k)))
    ∙ least-shown s order ordered (BothRails output) (λ word. is_illegal (val s word Base) (get_or s.outputs output d)) (both-shown s output d lt)

pub none-found : (s : StageData) (order : List ℕ) (ordered : IsOrderOf (length s.inputs) order) (space : SpaceData) → space.width ≡ length s.inputs → (refs : List Ref) → HaveTables space refs (function_tables_by order (data_functions s (values_at s Base))) → (output : ℕ) → output < length s.outputs → (e : Ref) → option_map (placed order) (least false space.width (space.table (get_or refs output e))) ≡ least_word_by order s (NoRail output)
none-found s order ordered space width refs have output lt e =
    let d : Rails = record { zero = record { 0 = 0 }; one = record { 0 = 0 } } in
    (λ k. option_map (placed order) (least false (width k) (table-at s order (λ r. λ word. has_data (val s word Base) r) space refs have output lt d e k)))
    ∙ least-hidden s order ordered (NoRail output) (λ word. has_data (val s word Base) (get_or s.outputs output d)) (none-shown s output d lt)

-- what is found of an output
abbrev pub output_fault : List ℕ → StageData → ℕ → Option RailFault
output_fault order s output = first_of (found_fault_by order s (BothRails output) ∷ found_fault_by order s (NoRail output) ∷ [])

pub fault-both : (s : StageData) (order : List ℕ) (output : ℕ) (word : List Bool) → least_word_by order s (BothRails output) ≡ Some word → output_fault order s output ≡ Some (rail.BothRails output word)
fault-both s order output word is = ap (λ least. first_of (option_and_then (rail_fault (BothRails output)) least ∷ found_fault_by order s (NoRail output) ∷ [])) is

pub fault-empty : (s : StageData) (order : List ℕ) (output : ℕ) (word : List Bool) → least_word_by order s (BothRails output) ≡ None → least_word_by order s (NoRail output) ≡ Some word → output_fault order s output ≡ Some (rail.NoRail output word)
fault-empty s order output word not_both is = λ k. first_of (option_and_then (rail_fault (BothRails output)) (not_both k) ∷ option_and_then (rail_fault (NoRail output)) (is k) ∷ [])

pub fault-none : (s : StageData) (order : List ℕ) (output : ℕ) → least_word_by order s (BothRails output) ≡ None → least_word_by order s (NoRail output) ≡ None → output_fault order s output ≡ None
fault-none s order output not_both neither = λ k. first_of (option_and_then (rail_fault (BothRails output)) (not_both k) ∷ option_and_then (rail_fault (NoRail output)) (neither k) ∷ [])

-- the first fault of the outputs in their order
pub first-fault : (s : StageData) (order : List ℕ) (output : ℕ) (fault : RailFault) → output < length s.outputs → ((k : ℕ) → k < output → output_fault order s k ≡ None) → output_fault order s output ≡ Some fault → first_rail_fault_by order s ≡ Some fault
first-fault s order output fault lt none is = outputs-grouped (found_fault_by order s) (below (length s.outputs)) ∙ first_below-some (output_fault order s) (length s.outputs) output fault lt none is

pub no-fault : (s : StageData) (order : List ℕ) → ((k : ℕ) → k < length s.outputs → output_fault order s k ≡ None) → first_rail_fault_by order s ≡ None
no-fault s order none = outputs-grouped (found_fault_by order s) (below (length s.outputs)) ∙ first_below-none (output_fault order s) (length s.outputs) none
