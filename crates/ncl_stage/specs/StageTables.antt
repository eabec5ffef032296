-- The tables of a stage's nets and of what is asked of its outputs, and the values that a space holds.
use Rattle.std.specs.Prelude.{ℕ, Bool, List, [], ◌∷◌, ◌++◌, map, Option, Some, None, slice_index_or}
use Rattle.std.specs.List.{list_all}
use Rattle.ncl_gates.specs.declared.kind.Kind.{Kind}
use Rattle.ncl_gates.specs.declared.kind.Kind.TheVariants.{Th22}
use Rattle.ncl_shape.specs.Stage.{StageData, nets_of, rail_of}
use Rattle.ncl_space.specs.Table.{words, table_of}
use Rattle.ncl_stage.specs.BitOrder.{bit_order, words_by}
use Rattle.ncl_space.specs.Functions.{at, gate_table}
use Rattle.ncl_space.specs.Space.{SpaceData}
use Rattle.ncl_space.specs.Making.{HaveTables}
use Rattle.ncl_space.specs.declared.space.Ref.{Ref}
use Rattle.ncl_faults.specs.declared.variant.Variant.{Variant}
use Rattle.ncl_stage.specs.Tables.{ValuesAt, fronts, function_tables_by, net_functions, data_functions, data_fronts}
use Rattle.ncl_faults.specs.Values.{val}
use Rattle.ncl_stage.specs.Wiring.{WiringData, IsWiring}

-- the table of a net under a variant, over the words in an order of the bits
abbrev pub net_table_by : List ℕ → StageData → Variant → ℕ → List Bool
net_table_by order s variant net = table_of (words_by order) (λ word. val s word variant net)

-- the tables of all nets of the stage
abbrev pub net_tables_by : List ℕ → StageData → Variant → List (List Bool)
net_tables_by order s variant = map (net_table_by order s variant) (nets_of s.inputs s.cells)

-- and those in the bit order of the stage
abbrev pub net_tables : StageData → Variant → List (List Bool)
net_tables s variant = net_tables_by (bit_order s) s variant

-- the rail of an input bit that a value names
abbrev pub rail_at : StageData → ℕ → Bool → ℕ
rail_at s bit value = rail_of (slice_index_or s.inputs bit (record { zero = record { 0 = 0 }; one = record { 0 = 0 } })) value

-- the tables that every variant has: of all nets, of the DATA of each output, and of their conjunctions
abbrev pub shared_tables_by : List ℕ → StageData → Variant → List (List Bool)
shared_tables_by order s variant =
    let v : ValuesAt = λ word. val s word variant in
    function_tables_by order (net_functions s v ++ data_functions s v ++ data_fronts s v)

-- a gate of two inputs on the functions at two places
abbrev pub pair_table : ℕ → Kind → List (List Bool) → ℕ × ℕ → List Bool
pair_table n kind tables pair = gate_table n kind (slice_index_or tables pair.0 [] ∷ slice_index_or tables pair.1 [] ∷ [])

-- the conjunction of some functions
abbrev pub all_table : ℕ → List (List Bool) → List Bool
all_table n tables = table_of (words n) (λ word. list_all (λ table. at table word) tables)

-- the conjunction of a function, if there is one, with another
abbrev pub conjunction : ℕ → Option (List Bool) → List Bool → List Bool
conjunction n None table = table
conjunction n (Some front) table = gate_table n Th22 (front ∷ table ∷ [])

-- the conjunctions of the first i functions, for each i from 1 on
abbrev pub front_tables : ℕ → List (List Bool) → List (List Bool)
front_tables n tables = map (all_table n) (fronts tables)

-- the wiring of a stage, and a Ref for each of its nets
pub record ValuesData : Type 0 where
  pub wiring : WiringData
  pub refs : List Ref

-- the Refs are live in the space, and have the tables of the nets of the stage under the variant, in the order of
-- the wiring
pub record AreValues (space : SpaceData) (s : StageData) (variant : Variant) (v : ValuesData) : Type 0 where
  pub wired : IsWiring s v.wiring
  pub shown : HaveTables space v.refs (net_tables_by v.wiring.order s variant)

-- the Ref at a place
abbrev pub ref_at : List Ref → ℕ → Ref
ref_at refs place = slice_index_or refs place (record { place = 0 })
