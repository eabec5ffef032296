-- A linear pipeline as a plain record.
use Rattle.std.specs.Prelude.{ℕ, List}
use Rattle.ncl_netlist.specs.Netlist.{NetlistData}
use Rattle.ncl_shape.specs.declared.bank.Bank.{Bank}
use Rattle.ncl_shape.specs.declared.rails.Rails.{Rails}
use Rattle.ncl_shape.specs.Stage.{StageData}

-- a netlist with its banks and stages in the order of the pipeline, the rails of its inputs and outputs,
-- the sink's acknowledge `ki` and the acknowledge `ko` to the source
pub record PipelineData : Type 0 where
  pub netlist : NetlistData
  pub banks : List Bank
  pub stages : List StageData
  pub inputs : List Rails
  pub outputs : List Rails
  pub ki : ℕ
  pub ko : ℕ
