-- Which thing it is that breaks in a run, by the fault that a word shows at a stage.
use Rattle.std.specs.Prelude.{◌≡◌, ℕ, ◌-◌, Bool, true, List, [], ◌∷◌, Option, None, Some, slice_get}
use Rattle.std.specs.List.{list_all}
use Rattle.ncl_netlist.specs.declared.cell.Cell.{Cell}
use Rattle.ncl_netlist.specs.declared.ids.CellId.{CellId}
use Rattle.ncl_cell_rules.specs.Origin.{CellAt}
use Rattle.ncl_shape.specs.declared.item.Item.{Item}
use Rattle.ncl_shape.specs.declared.rails.Rails.{Rails}
use Rattle.ncl_shape.specs.declared.stage.StageCell.{StageCell}
use Rattle.ncl_shape.specs.Stage.{StageData, rail_of}
use Rattle.ncl_shape.specs.Pipeline.{PipelineData}
use Rattle.ncl_faults.specs.Faults.{StageFault, BothRails, NoRail, Incomplete, Orphan, has_data, is_illegal}
use Rattle.ncl_machine.specs.State.{reset}
use Rattle.ncl_machine.specs.Run.{IsRun, IsQuiet, after}
use Rattle.ncl_verdict.specs.declared.verdict.Verdict.{Verdict}
use Rattle.ncl_verdict.specs.Judgement.{verdict_of}
use Rattle.ncl_hazard.specs.Trying.{Loses}

-- a run over an input alone breaks what a fault of a stage of the pipeline names, by the loss of a cell's excitation or without one
pub data BreaksBy (p : PipelineData) (input : List Bool) (s : StageData) (items : List Item) : StageFault → Option CellId → Type 0 where
  -- both rails of an output: a state comes in which that output is illegal
  illegal_output : (output : ℕ) (r : Rails) → slice_get s.outputs output ≡ Some r → IsRun p (input ∷ []) items
      → is_illegal (after p (reset p (input ∷ [])) items).value r ≡ true → BreaksBy p input s items (BothRails output) None
  -- no rail of an output: the run comes to a stop in which each bit of the bank before the stage is DATA
  stop_while_full : (output : ℕ) → IsRun p (input ∷ []) items → IsQuiet p (after p (reset p (input ∷ [])) items)
      → list_all (has_data (after p (reset p (input ∷ [])) items).value) s.inputs ≡ true → BreaksBy p input s items (NoRail output) None
  -- a bit that isn't waited for: a register cell that drives a rail of that bit loses its excitation in the last step
  register_loses : (bit : ℕ) (r : Rails) → slice_get s.inputs bit ≡ Some r → (cell : CellId) (c : Cell) → CellAt p.netlist cell.0 c
      → (rail : Bool) → c.out.0 ≡ rail_of r rail → Loses p (reset p (input ∷ [])) cell items → BreaksBy p input s items (Incomplete bit) (Some cell)
  -- an orphan: that gate does
  gate_loses : (place : ℕ) (g : StageCell) → slice_get s.cells place ≡ Some g → Loses p (reset p (input ∷ [])) g.cell items
      → BreaksBy p input s items (Orphan place) (Some g.cell)

-- some run over the input alone does
pub record Breaks (p : PipelineData) (input : List Bool) (s : StageData) (fault : StageFault) : Type 0 where
  pub items : List Item
  pub lost : Option CellId
  pub breaks : BreaksBy p input s items fault lost

-- a verdict is that of a fault of the stage with this number, and a run over the input alone breaks what that fault names
pub record BreaksAsTold (p : PipelineData) (number : ℕ) (word : List Bool) (v : Verdict) (input : List Bool) : Type 0 where
  pub stage : StageData
  pub at : slice_get p.stages (number - 1) ≡ Some stage
  pub fault : StageFault
  pub is : verdict_of stage fault word ≡ v
  pub breaks : Breaks p input stage fault
