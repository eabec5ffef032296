-- Runs of stages of a pipeline.
use Rattle.std.specs.Prelude.{ℕ, ◌+◌, ◌<◌, ◌≤◌, ◌^◌, List, length}
use Rattle.ncl_shape.specs.Stage.{StageData}

-- stages one after another, the first of which stands at a place of a pipeline, and how many nodes each may have
pub record RunData : Type 0 where
  pub stages : List StageData
  pub place : ℕ
  pub limit : ℕ

-- some node may be, and the places of the stages are numbers of 64 bits
pub record IsRun (run : RunData) : Type 0 where
  pub limit : 1 ≤ run.limit
  pub room : run.place + length run.stages < 2 ^ 64
