-- The judgement of a stage in a space: what stops it there, when the variants after Base can be asked, and
-- what the faults of its outputs say.
use Rattle.std.specs.Prelude.{◌≡◌, ℕ, ◌+◌, ◌<◌, ◌≤◌, length, Option, Some, None, All, IsTrue}
use Rattle.ncl_shape.specs.Stage.{StageData}
use Rattle.ncl_space.specs.Beads.{distinct_beads}
use Rattle.ncl_space.specs.Space.{SpaceData}
use Rattle.ncl_space.specs.declared.space.Mark.{Mark}
use Rattle.ncl_stage.specs.BitOrder.{bit_order}
use Rattle.ncl_faults.specs.declared.variant.Variant.{Variant}
use Rattle.ncl_faults.specs.declared.variant.Variant.TheVariants.{Base, Bit, Cell}
use Rattle.ncl_stage.specs.StageTables.{AreValues, ValuesData}
use Rattle.ncl_stage.specs.Tables.{tables_of}
use Rattle.ncl_complete.specs.declared.rail_fault.RailFault.{RailFault}
use Rattle.ncl_complete.specs.declared.rail_fault.RailFault.TheVariants as rail
use Rattle.ncl_verdict.specs.declared.verdict.Verdict.{Verdict}
use Rattle.ncl_verdict.specs.declared.verdict.Verdict.TheVariants as verdict
use Rattle.ncl_verdict.specs.Judgement.{Stop, at_variant, stopped_at}

-- what stops the judgement of a stage in a space with this limit
abbrev pub stopped_within : Option ℕ → Stop
stopped_within None s variant = None
stopped_within (Some limit) s variant = stopped_at limit s variant

-- the space has the values of the stage under Base, in its bit order, and holds the beads of all tables of Base
pub record IsReady (space : SpaceData) (s : StageData) (base : ValuesData) : Type 0 where
  pub width : space.width ≡ length s.inputs
  pub values : AreValues space s Base base
  pub order : base.wiring.order ≡ bit_order s
  pub held : space.held ≡ distinct_beads (length s.inputs) (tables_of s Base)

-- some node may be, the space is ready, with this limit, and nothing is said under Base
pub record IsBegun (limit : ℕ) (s : StageData) (space : SpaceData) (base : ValuesData) : Type 0 where
  pub some : 1 ≤ limit
  pub same_limit : space.limit ≡ Some limit
  pub ready : IsReady space s base
  pub nothing : at_variant (stopped_at limit) s Base ≡ None

-- a stage that may have so many nodes, of which nothing is said under Base
pub record ReadyData : Type 0 where
  pub stage : StageData
  pub limit : ℕ

-- a stage, values of its nets, and a mark of the space that has them
pub record AskedData : Type 0 where
  pub stage : StageData
  pub base : ValuesData
  pub start : Mark

-- the space has the values of the stage under Base, in its bit order, and a limit; and at a mark that stands they were live,
-- and exactly the beads of all tables of Base were held. What was made for variants since may be there too
pub record IsAsked (space : SpaceData) (limit : Option ℕ) (a : AskedData) : Type 0 where
  pub width : space.width ≡ length a.stage.inputs
  pub same_limit : space.limit ≡ limit
  pub values : AreValues space a.stage Base a.base
  pub order : a.base.wiring.order ≡ bit_order a.stage
  pub stands : IsTrue (space.stands a.start)
  pub live_at : All (λ r. IsTrue (space.live_at a.start r)) a.base.refs
  pub held_at : space.held_at a.start ≡ distinct_beads (length a.stage.inputs) (tables_of a.stage Base)

-- a variant of the stage other than Base
abbrev pub IsAfterBase : StageData → Variant → Type 0
IsAfterBase s Base = ⊥
IsAfterBase s (Bit bit) = bit < length s.inputs
IsAfterBase s (Cell cell) = cell < length s.cells

-- the verdict of a fault of an output
abbrev pub rail_verdict : StageData → RailFault → Verdict
rail_verdict s (rail.BothRails output word) = verdict.BothRails s.number (output + 1) word
rail_verdict s (rail.NoRail output word) = verdict.NoRail s.number (output + 1) word

-- its output
abbrev pub output_of : RailFault → ℕ
output_of (rail.BothRails output word) = output
output_of (rail.NoRail output word) = output
