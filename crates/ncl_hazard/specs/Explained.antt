-- Explanations of orphans: an input that brings to a stage a word that shows one, and a run over it that disturbs the
-- cell, or that no input does.
use Rattle.std.specs.Prelude.{◌≡◌, ℕ, ◌<◌, ◌≤◌, Bool, true, List, [], ◌∷◌, length, Some, None, slice_get}
use Rattle.ncl_netlist.specs.declared.ids.CellId.{CellId}
use Rattle.ncl_shape.specs.declared.stage.StageCell.{StageCell}
use Rattle.ncl_shape.specs.Stage.{StageData}
use Rattle.ncl_shape.specs.Pipeline.{PipelineData}
use Rattle.ncl_faults.specs.Faults.{IsSound}
use Rattle.ncl_verdict.specs.declared.verdict.Verdict.TheVariants.{Orphan}
use Rattle.ncl_verdict.specs.Judgement.{judgement}
use Rattle.ncl_machine.specs.State.{reset}
use Rattle.ncl_hazard.specs.declared.explaining.Explained.{Explained}
use Rattle.ncl_hazard.specs.declared.explaining.Explained.TheVariants.{Shown, NoWord}
use Rattle.ncl_hazard.specs.Trying.{Loses}
use Rattle.ncl_hazard.specs.Why.{brings_orphan, least_input, why_count}

-- the cell stands at a place of a stage
abbrev pub StandsAt : StageData → CellId → ℕ → Type 0
StandsAt s cell place = (g : StageCell) × (slice_get s.cells place ≡ Some g) × (g.cell ≡ cell)

-- and of the stage after so many others
abbrev pub IsPlaceOf : PipelineData → ℕ → CellId → StageData → ℕ → Type 0
IsPlaceOf p before cell s place = (slice_get p.stages before ≡ Some s) × StandsAt s cell place

-- the first so many stages are sound
abbrev pub AreSoundBefore : PipelineData → ℕ → Type 0
AreSoundBefore p before = (k : ℕ) (t : StageData) → k < before → slice_get p.stages k ≡ Some t → IsSound t

-- the stages before a stage are sound, and by the judgement of that stage alone, with some limit, the cell is an orphan
pub record IsOrphanAt (p : PipelineData) (before : ℕ) (cell : CellId) : Type 0 where
  pub own : StageData
  pub at : slice_get p.stages before ≡ Some own
  pub sound : AreSoundBefore p before
  pub limit : ℕ
  pub number : ℕ
  pub word : List Bool
  pub judged : judgement limit (own ∷ []) ≡ Orphan number cell word

-- an input of the pipeline brings a word that shows the cell to be an orphan
pub record BringsOrphan (p : PipelineData) (before : ℕ) (cell : CellId) (input : List Bool) : Type 0 where
  pub own : StageData
  pub place : ℕ
  pub of_cell : IsPlaceOf p before cell own place
  pub wide : length input ≡ length p.inputs
  pub shows : brings_orphan p before own place input ≡ true

-- what is told of a cell at a place of a stage: the least input that brings a word that shows it to be an orphan, with a
-- run over that input from reset in whose last step the cell loses its excitation; or that there is no such input
abbrev pub TellsOfCell : PipelineData → ℕ → CellId → StageData → ℕ → Explained → Type 0
TellsOfCell p before cell s place NoWord = least_input p before s place ≡ None
TellsOfCell p before cell s place (Shown input run) = (least_input p before s place ≡ Some input) × Loses p (reset p (input ∷ [])) cell run

-- an explanation of the cell, whose functions have no more nodes than the limit
pub record IsExplained (p : PipelineData) (before : ℕ) (cell : CellId) (limit : ℕ) (told : Explained) : Type 0 where
  pub own : StageData
  pub place : ℕ
  pub of_cell : IsPlaceOf p before cell own place
  pub within : why_count p before place ≤ limit
  pub tells : TellsOfCell p before cell own place told

-- the functions of an explanation have more nodes than the limit
pub record IsPastLimit (p : PipelineData) (before : ℕ) (cell : CellId) (limit : ℕ) : Type 0 where
  pub own : StageData
  pub place : ℕ
  pub of_cell : IsPlaceOf p before cell own place
  pub past : limit < why_count p before place
