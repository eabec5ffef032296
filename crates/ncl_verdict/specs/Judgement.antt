-- The judgement of a pipeline's stages: the first fault in order, with the least word that shows it.
use Rattle.std.specs.Prelude.{◌≡◌, ℕ, ◌+◌, nat_lt, Bool, List, [], ◌∷◌, ◌++◌, map, length, Option, Some, None, IfSome, if◌then◌else◌, unwrap_or, option_and_then, slice_get}
use Rattle.ncl_netlist.specs.declared.ids.CellId.{CellId}
use Rattle.ncl_shape.specs.declared.stage.StageCell.{StageCell}
use Rattle.ncl_shape.specs.Stage.{StageData}
use Rattle.ncl_faults.specs.declared.variant.Variant.{Variant}
use Rattle.ncl_faults.specs.declared.variant.Variant.TheVariants.{Base, Bit, Cell}
use Rattle.ncl_faults.specs.Faults.{StageFault, BothRails, NoRail, Incomplete, Orphan}
use Rattle.ncl_stage.specs.Tables.{count}
pub use Rattle.ncl_stage.specs.LeastWords.{below, faults_of, first_of, least_word}
use Rattle.ncl_verdict.specs.declared.verdict.Verdict.{Verdict}
use Rattle.ncl_verdict.specs.declared.verdict.Verdict.TheVariants as verdict

-- what stops the judgement of a stage at a variant, before its faults are looked for: more nodes than the limit
abbrev pub stopped_at : ℕ → StageData → Variant → Option Verdict
stopped_at limit s variant = if nat_lt limit (count s variant) then Some (verdict.Limit s.number) else None

-- the number of the cell at a place of the stage
abbrev pub cell_number : Option StageCell → CellId
cell_number None = record { 0 = 0 }
cell_number (Some c) = c.cell

-- the verdict that a fault gives, with the word that shows it
abbrev pub verdict_of : StageData → StageFault → List Bool → Verdict
verdict_of s (BothRails output) word = verdict.BothRails s.number (output + 1) word
verdict_of s (NoRail output) word = verdict.NoRail s.number (output + 1) word
verdict_of s (Incomplete bit) word = verdict.Incomplete s.number (bit + 1) word
verdict_of s (Orphan cell) word = verdict.Orphan s.number (cell_number (slice_get s.cells cell)) word

-- a place among places in ascending order of their keys
abbrev pub inserted : (ℕ → ℕ) → ℕ → List ℕ → List ℕ
inserted key place [] = place ∷ []
inserted key place (other ∷ places) = if nat_lt (key place) (key other) then place ∷ other ∷ places else other ∷ inserted key place places

-- places in ascending order of their keys
abbrev pub ordered_by : (ℕ → ℕ) → List ℕ → List ℕ
ordered_by key [] = []
ordered_by key (place ∷ places) = inserted key place (ordered_by key places)

-- the number in the file of the cell at a place of the stage
abbrev pub file_number : StageData → ℕ → ℕ
file_number s place = (cell_number (slice_get s.cells place)).0

-- the places of the stage's cells in the order of the file
abbrev pub file_order : StageData → List ℕ
file_order s = ordered_by (file_number s) (below (length s.cells))

-- the variants after Base in their order: the input bits, then the gate cells in the order of the file
abbrev pub after_base : StageData → List Variant
after_base s = map Bit (below (length s.inputs)) ++ map Cell (file_order s)

-- the variants in their order
abbrev pub variants : StageData → List Variant
variants s = Base ∷ after_base s

-- the verdict of a fault, if some word shows it
abbrev pub found : StageData → StageFault → Option Verdict
found s fault = option_and_then (λ word. Some (verdict_of s fault word)) (least_word s fault)

-- what stops the judgement of a stage at a variant, if anything does
abbrev pub Stop : Type 0
Stop = StageData → Variant → Option Verdict

-- at a variant: first what stops the judgement, then its faults
abbrev pub at_variant : Stop → StageData → Variant → Option Verdict
at_variant stop s variant = first_of (stop s variant ∷ map (found s) (faults_of s variant))

-- of one stage: the first answer at its variants
abbrev pub of_stage : Stop → StageData → Option Verdict
of_stage stop s = first_of (map (at_variant stop s) (variants s))

-- of the stages in order; accepted where nothing is found
abbrev pub judged : Stop → List StageData → Verdict
judged stop stages = unwrap_or (first_of (map (of_stage stop) stages)) verdict.Accepted

-- the judgement of the stages of a pipeline, each with at most so many nodes
abbrev pub judgement : ℕ → List StageData → Verdict
judgement limit stages = judged (stopped_at limit) stages

-- an answer to some stages, if there is one, is their judgement
abbrev pub Answers : ℕ → List StageData → Option Verdict → Type 0
Answers limit stages answer = IfSome answer (λ v. v ≡ judgement limit stages)
