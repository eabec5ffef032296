-- What a run goes through: a pipeline, its delays, and the tables that are made of both before it begins.
use Rattle.std.specs.Prelude.{ℕ, List}
use Rattle.ncl_shape.specs.Pipeline.{PipelineData}
use Rattle.ncl_delay.specs.Delays.{DelaysData}
use Rattle.ncl_sim.specs.Rows.{AreRowsOf}
use Rattle.ncl_sim.specs.Running.{HasTouched}
use Rattle.ncl_sim.specs.declared.rows.Row.{Row}

pub record CourseData : Type 0 where
  pub pipeline : PipelineData
  pub delays : DelaysData
  pub rows : List Row
  pub touched : List (List ℕ)

-- the rows are of its cells with its delays, and the numbers at each net are those that a change of it can touch
pub record IsCourse (c : CourseData) : Type 0 where
  pub rows : AreRowsOf c.pipeline c.delays c.rows
  pub touched : HasTouched c.pipeline c.touched
