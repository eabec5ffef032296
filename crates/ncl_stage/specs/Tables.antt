-- The tables of a variant, and how many beads they have: the nodes of its decision diagrams.
use Rattle.std.specs.Prelude.{ℕ, Bool, ◌&&◌, List, [], ◌∷◌, ◌++◌, map, length, Option, Some, None, slice_get}
use Rattle.std.specs.List.{list_all}
use Rattle.ncl_shape.specs.declared.rails.Rails.{Rails}
use Rattle.ncl_shape.specs.declared.stage.StageCell.{StageCell}
use Rattle.ncl_shape.specs.Nets.{Nets}
use Rattle.ncl_shape.specs.Stage.{StageData, nets_of}
use Rattle.ncl_space.specs.Table.{table_of}
use Rattle.ncl_stage.specs.BitOrder.{bit_order, words_by}
use Rattle.ncl_space.specs.Beads.{bead_count}
use Rattle.ncl_faults.specs.declared.variant.Variant.{Variant}
use Rattle.ncl_faults.specs.declared.variant.Variant.TheVariants.{Base, Bit, Cell}
use Rattle.ncl_faults.specs.Values.{val}
use Rattle.ncl_faults.specs.Faults.{has_data, is_illegal}

-- a function of the words of a stage
abbrev pub WordFunction : Type 0
WordFunction = List Bool → Bool

-- the values of the nets, words and all
abbrev pub ValuesAt : Type 0
ValuesAt = List Bool → Nets

-- each front of a list but the empty one, the shortest first
abbrev pub fronts : {X : Type 0} → List X → List (List X)
fronts [] = []
fronts (x ∷ xs) = (x ∷ []) ∷ map (λ front. x ∷ front) (fronts xs)

-- every net of the stage
abbrev pub net_functions : StageData → ValuesAt → List WordFunction
net_functions s v = map (λ net. λ word. v word net) (nets_of s.inputs s.cells)

-- for each output: it is DATA
abbrev pub data_functions : StageData → ValuesAt → List WordFunction
data_functions s v = map (λ (r : Rails). λ word. has_data (v word) r) s.outputs

-- the first i outputs are DATA, for each i from 1 on
abbrev pub data_fronts : StageData → ValuesAt → List WordFunction
data_fronts s v = map (λ (front : List Rails). λ word. list_all (has_data (v word)) front) (fronts s.outputs)

-- all outputs are DATA
abbrev pub all_data_function : StageData → ValuesAt → WordFunction
all_data_function s v word = list_all (has_data (v word)) s.outputs

-- for each output under Base: both rails are high
abbrev pub illegal_functions : StageData → ValuesAt → List WordFunction
illegal_functions s v = map (λ (r : Rails). λ word. is_illegal (v word) r) s.outputs

-- for a cell: it is high, and all outputs are DATA without it
abbrev pub orphan_function : StageData → Option StageCell → ValuesAt → List WordFunction
orphan_function s None v = []
orphan_function s (Some c) v = (λ word. val s word Base c.out.0 && all_data_function s v word) ∷ []

-- what a variant asks besides
abbrev pub question_functions : StageData → Variant → ValuesAt → List WordFunction
question_functions s Base v = illegal_functions s v
question_functions s (Bit bit) v = []
question_functions s (Cell cell) v = orphan_function s (slice_get s.cells cell) v

-- the functions of a variant
abbrev pub functions_of : StageData → Variant → List WordFunction
functions_of s variant =
    let v : ValuesAt = λ word. val s word variant in
    net_functions s v ++ data_functions s v ++ data_fronts s v ++ question_functions s variant v

-- the tables of some functions, over the words in an order of the bits
abbrev pub function_tables_by : List ℕ → List WordFunction → List (List Bool)
function_tables_by order functions = map (table_of (words_by order)) functions

-- the tables of a variant in an order of the bits, and in the bit order of the stage
abbrev pub tables_by : List ℕ → StageData → Variant → List (List Bool)
tables_by order s variant = function_tables_by order (functions_of s variant)

abbrev pub tables_of : StageData → Variant → List (List Bool)
tables_of s variant = tables_by (bit_order s) s variant

-- the count of a variant: the distinct beads of its tables and of those of Base together
abbrev pub count : StageData → Variant → ℕ
count s variant = bead_count (length s.inputs) (tables_of s Base ++ tables_of s variant)
