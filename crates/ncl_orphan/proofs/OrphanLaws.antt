-- The function that tells where a cell is high and nothing observes it.
use Rattle.std.proofs.Common.{◌≡◌, ℕ, ◌<◌, Bool, true, ◌&&◌, List, [], ◌∷◌, ◌++◌, length, get_or, sym, ◌∙◌, ap}
use Rattle.std.proofs.lemmas.Option.{slice_get-get_or}
use Rattle.ncl_gates.specs.declared.kind.Kind.TheVariants.{Th22}
use Rattle.ncl_gates.specs.Gate.{set_of}
use Rattle.ncl_shape.specs.declared.stage.StageCell.{StageCell}
use Rattle.ncl_shape.specs.Stage.{StageData}
use Rattle.std.specs.Option.{option_map}
use Rattle.ncl_space.specs.Table.{table_of}
use Rattle.ncl_stage.specs.BitOrder.{IsOrderOf, placed, words_by}
use Rattle.ncl_stage.proofs.OrderedTables.{ordered-at, ordered-same}
use Rattle.ncl_space.specs.Functions.{at, gate_table, least}
use Rattle.ncl_faults.specs.declared.variant.Variant.TheVariants.{Base, Cell}
use Rattle.ncl_faults.specs.Faults.{Orphan, all_data, holds_at}
use Rattle.ncl_stage.specs.LeastWords.{least_word_by}
use Rattle.ncl_stage.specs.StageTables.{net_table_by, shared_tables_by}
use Rattle.ncl_stage.specs.Tables.{all_data_function, function_tables_by, orphan_function, tables_by}
use Rattle.ncl_faults.specs.Values.{val}
use Rattle.ncl_gates.proofs.GateLaws.{and_gate}
use Rattle.ncl_stage.proofs.OutputLaws.{values_at}
use Rattle.ncl_stage.proofs.LeastLaws.{least-shown, tables_of-parts}

-- the cell is high under Base, and all outputs are DATA without it
abbrev pub unobserved_at : StageData → ℕ → StageCell → List Bool → Bool
unobserved_at s cell c word = val s word Base c.out.0 && all_data s (val s word (Cell cell))

abbrev pub unobserved_table : List ℕ → StageData → ℕ → StageCell → List Bool
unobserved_table order s cell c = table_of (words_by order) (unobserved_at s cell c)

-- the tables of the variant of a cell
pub cell-tables : (s : StageData) (order : List ℕ) (cell : ℕ) (d : StageCell) → cell < length s.cells → tables_by order s (Cell cell) ≡ shared_tables_by order s (Cell cell) ++ unobserved_table order s cell (get_or s.cells cell d) ∷ []
cell-tables s order cell d lt =
    tables_of-parts s order (Cell cell)
    ∙ ap (λ c. shared_tables_by order s (Cell cell) ++ function_tables_by order (orphan_function s c (values_at s (Cell cell)))) (slice_get-get_or s.cells cell d lt)

-- both of its functions give it
pub unobserved-made : (s : StageData) (order : List ℕ) (ordered : IsOrderOf (length s.inputs) order) (cell : ℕ) (c : StageCell) → gate_table (length s.inputs) Th22 (net_table_by order s Base c.out.0 ∷ table_of (words_by order) (all_data_function s (values_at s (Cell cell))) ∷ []) ≡ unobserved_table order s cell c
unobserved-made s order ordered cell c =
    let all : List Bool → Bool = all_data_function s (values_at s (Cell cell)) in
    ordered-same (length s.inputs) order ordered (λ word. set_of Th22 (at (net_table_by order s Base c.out.0) word ∷ at (table_of (words_by order) all) word ∷ [])) (unobserved_at s cell c) (λ word same.
    and_gate (at (net_table_by order s Base c.out.0) word) (at (table_of (words_by order) all) word)
    ∙ (λ i. ordered-at (length s.inputs) order ordered (λ w. val s w Base c.out.0) word same i && ordered-at (length s.inputs) order ordered all word same i))

-- its least word is that of the orphan
pub unobserved-least : (s : StageData) (order : List ℕ) (ordered : IsOrderOf (length s.inputs) order) (cell : ℕ) (d : StageCell) → cell < length s.cells → option_map (placed order) (least true (length s.inputs) (unobserved_table order s cell (get_or s.cells cell d))) ≡ least_word_by order s (Orphan cell)
unobserved-least s order ordered cell d lt = least-shown s order ordered (Orphan cell) (unobserved_at s cell (get_or s.cells cell d)) (λ word.
    sym (ap (holds_at (λ (c : StageCell). unobserved_at s cell c word)) (slice_get-get_or s.cells cell d lt)))
