-- Stages whose diagrams stay within a limit.
use Rattle.std.specs.Prelude.{ℕ, ◌≤◌, List, Contains}
use Rattle.ncl_shape.specs.Stage.{StageData}
use Rattle.ncl_faults.specs.declared.variant.Variant.{Variant}
use Rattle.ncl_stage.specs.Tables.{count}
use Rattle.ncl_verdict.specs.Judgement.{variants}

-- no variant of the stage has more nodes than the limit
abbrev pub IsWithin : ℕ → StageData → Type 0
IsWithin limit s = (variant : Variant) → Contains (variants s) variant → count s variant ≤ limit

-- nor has any of some stages
abbrev pub AreWithin : ℕ → List StageData → Type 0
AreWithin limit stages = (s : StageData) → Contains stages s → IsWithin limit s
