-- Items that are tried in turn: each happens where it can.
use Rattle.std.specs.Prelude.{◌≡◌, ◌≢◌, true, false, if◌then◌else◌, List, [], ◌∷◌, ◌++◌}
use Rattle.ncl_netlist.specs.declared.ids.CellId.{CellId}
use Rattle.ncl_shape.specs.declared.item.Item.{Item}
use Rattle.ncl_shape.specs.declared.item.Item.TheVariants.{Cell as Fire}
use Rattle.ncl_shape.specs.Held.{data_banks}
use Rattle.ncl_shape.specs.Pipeline.{PipelineData}
use Rattle.ncl_machine.specs.State.{State}
use Rattle.ncl_machine.specs.Steps.{enabled, step}
use Rattle.ncl_machine.specs.Run.{IsRunFrom, after}

-- no bank of the pipeline is reset to DATA
abbrev pub HasNoDataBank : PipelineData → Type 0
HasNoDataBank p = data_banks p.banks ≡ 0

-- the state once an item was tried
abbrev pub turned : PipelineData → State → Item → State
turned p s item = if enabled p s item then step p s item else s

-- the state once some items were tried in turn
abbrev pub tried : PipelineData → State → List Item → State
tried p s [] = s
tried p s (item ∷ items) = tried p (turned p s item) items

-- those of them that happened
abbrev pub happened : PipelineData → State → List Item → List Item
happened p s [] = []
happened p s (item ∷ items) = (if enabled p s item then item ∷ [] else []) ++ happened p (turned p s item) items

-- a run from a state that ends as a cell loses its excitation: the last item is another than the cell's, and takes from
-- the cell that it is enabled
pub record Loses (p : PipelineData) (s : State) (cell : CellId) (run : List Item) : Type 0 where
  pub first : List Item
  pub last : Item
  pub parts : run ≡ first ++ last ∷ []
  pub is_run : IsRunFrom p s run
  pub other : last ≢ Fire cell
  pub before : enabled p (after p s first) (Fire cell) ≡ true
  pub lost : enabled p (after p s run) (Fire cell) ≡ false
