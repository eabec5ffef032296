-- Runs that go wrong, for a fault that an input brings to a stage.
use Rattle.std.specs.Prelude.{◌≡◌, ℕ, Bool, true, false, List, ◌++◌, length, Some, slice_get}
use Rattle.ncl_netlist.specs.declared.ids.CellId.{CellId}
use Rattle.ncl_shape.specs.declared.bank.Bit.{Bit}
use Rattle.ncl_shape.specs.declared.item.Item.{Item}
use Rattle.ncl_shape.specs.Stage.{StageData}
use Rattle.ncl_shape.specs.Pipeline.{PipelineData}
use Rattle.ncl_faults.specs.Faults.{StageFault, shows}
use Rattle.ncl_machine.specs.State.{State}
use Rattle.ncl_machine.specs.Run.{IsRunFrom, IsQuiet, after}
use Rattle.ncl_hazard.specs.Trying.{HasNoDataBank}
use Rattle.ncl_hazard.specs.Why.{brings}
use Rattle.ncl_refusal.specs.Breaks.{BreaksBy}
use Rattle.ncl_refusal.specs.Reached.{AreSoundOnTheWay}
use Rattle.ncl_reaching.specs.declared.breaking.WrongRun.{WrongRun}

-- no bank is reset to DATA, and the input brings to the stage after so many others a word that shows the fault, while the stages
-- before show none at what it brings to them
pub record BringsFault (p : PipelineData) (before : ℕ) (input : List Bool) (fault : StageFault) : Type 0 where
  pub null : HasNoDataBank p
  pub wide : length input ≡ length p.inputs
  pub stage : StageData
  pub at : slice_get p.stages before ≡ Some stage
  pub sound : AreSoundOnTheWay p before input
  pub shown : shows stage (brings p.stages before input) fault ≡ true

-- a run over the input breaks what the fault of that stage names
pub record BreaksIn (p : PipelineData) (before : ℕ) (input : List Bool) (fault : StageFault) (run : WrongRun) : Type 0 where
  pub stage : StageData
  pub at : slice_get p.stages before ≡ Some stage
  pub breaks : BreaksBy p input stage run.steps fault run.lost

-- some items more go on from a state to a stop
pub record GoesToStop (p : PipelineData) (start : State) (before run : List Item) : Type 0 where
  pub more : List Item
  pub parts : run ≡ before ++ more
  pub is_run : IsRunFrom p start more
  pub quiet : IsQuiet p (after p start more)

-- the register cell of a rail of a bit
abbrev pub register_cell : Bit → Bool → CellId
register_cell bit true = bit.rail1
register_cell bit false = bit.rail0
