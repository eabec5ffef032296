-- The search for the least word that shows an orphan, words being compared as binary numbers.
use Rattle.std.specs.Prelude.{ℕ, List, ◌++◌, length}
use Rattle.std.specs.List.{range_with_len}
use Rattle.ncl_shape.specs.Stage.{StageData}
use Rattle.ncl_space.specs.Beads.{bead_count}
use Rattle.ncl_faults.specs.declared.variant.Variant.{Variant}
use Rattle.ncl_faults.specs.declared.variant.Variant.TheVariants.{Base, Cell}
use Rattle.ncl_stage.specs.StageTables.{net_tables_by}
use Rattle.ncl_stage.specs.Tables.{tables_by}

-- the bits of a stage in ascending order: words stand in it as the binary numbers that they are
abbrev pub ascending : StageData → List ℕ
ascending s = range_with_len 0 (length s.inputs)

-- how many beads the tables have that a question makes, over words as binary numbers: those of all nets under Base, and those of
-- a variant
abbrev pub question_count : StageData → Variant → ℕ
question_count s variant = bead_count (length s.inputs) (net_tables_by (ascending s) s Base ++ tables_by (ascending s) s variant)

-- and those that the search for an orphan makes
abbrev pub made_count : StageData → ℕ → ℕ
made_count s cell = question_count s (Cell cell)
