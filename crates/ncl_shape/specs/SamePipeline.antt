-- When two pipelines are the same but for the order of the cells of their stages.
use Rattle.std.specs.Prelude.{◌≡◌}
use Rattle.std.specs.List.{AllZip}
use Rattle.std.specs.List.Sorted.{IsPermutation}
use Rattle.ncl_shape.specs.Stage.{StageData}
use Rattle.ncl_shape.specs.Pipeline.{PipelineData}

-- the same number, inputs and outputs, and the same cells, perhaps in another order
pub record IsSameStage (s t : StageData) : Type 0 where
  pub number : s.number ≡ t.number
  pub inputs : s.inputs ≡ t.inputs
  pub cells : IsPermutation s.cells t.cells
  pub outputs : s.outputs ≡ t.outputs

-- all else is equal, and the stages are the same one by one
pub record IsSamePipeline (p q : PipelineData) : Type 0 where
  pub netlist : p.netlist ≡ q.netlist
  pub banks : p.banks ≡ q.banks
  pub stages : AllZip IsSameStage p.stages q.stages
  pub inputs : p.inputs ≡ q.inputs
  pub outputs : p.outputs ≡ q.outputs
  pub ki : p.ki ≡ q.ki
  pub ko : p.ko ≡ q.ko
