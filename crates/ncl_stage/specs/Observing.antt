-- How a space is asked whether the nets of a stage are observed: by functions of where nets are low, and of what gates make
-- where one net alone is.
use Rattle.std.specs.Prelude.{◌≡◌, ◌⊎◌, ℕ, Bool, true, false, not, List, Contains, map}
use Rattle.ncl_shape.specs.declared.stage.StageCell.{StageCell}
use Rattle.ncl_shape.specs.Nets.{with_net}
use Rattle.ncl_shape.specs.Stage.{StageData, nets_of}
use Rattle.ncl_space.specs.Functions.{at}
use Rattle.ncl_space.specs.Table.{table_of}
use Rattle.ncl_stage.specs.BitOrder.{placed, words_by}
use Rattle.ncl_faults.specs.declared.variant.Variant.TheVariants.{Base}
use Rattle.ncl_faults.specs.Faults.{IsWordOf}
use Rattle.ncl_stage.specs.Observed.{IsObserved, SomeFalls}
use Rattle.ncl_faults.specs.Values.{holds, val}

-- the table of where a net is low under Base, over the words in an order of the bits
abbrev pub low_table_by : List ℕ → StageData → ℕ → List Bool
low_table_by order s net = table_of (words_by order) (λ word. not (val s word Base net))

-- those of all nets of the stage
abbrev pub low_tables_by : List ℕ → StageData → List (List Bool)
low_tables_by order s = map (low_table_by order s) (nets_of s.inputs s.cells)

-- the table of where the set function of a cell holds with a net low, and all other nets as under Base
abbrev pub table_without : List ℕ → StageData → ℕ → StageCell → List Bool
table_without order s net c = table_of (words_by order) (λ word. holds (with_net (val s word Base) net false) c)

-- wherever a net is high under Base, a table has a 1, or some gate falls with the net
abbrev pub IsLeft : List ℕ → StageData → ℕ → List Bool → Type 0
IsLeft order s net table = (word : List Bool) → IsWordOf s word → val s (placed order word) Base net ≡ true → (at table word ≡ true) ⊎ SomeFalls s (val s (placed order word) Base) net

-- wherever a net is high under Base, it is observed
abbrev pub IsAlwaysObserved : StageData → ℕ → Type 0
IsAlwaysObserved s net = (word : List Bool) → IsWordOf s word → val s word Base net ≡ true → IsObserved s (val s word Base) net

-- a rail of an output stands at a place
abbrev pub IsShown : List (ℕ × ℕ) → ℕ → Type 0
IsShown outputs place = (pair : ℕ × ℕ) × Contains outputs pair × ((place ≡ pair.0) ⊎ (place ≡ pair.1))
