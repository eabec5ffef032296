-- What is answered of a pipeline: that no stage shows a fault at a word that an input brings to it; the first that does, with the
-- least input that brings such a word; or a question with too many nodes.
use Rattle.std.specs.Prelude.{◌≡◌, ℕ, ◌-◌, ◌<◌, ◌≤◌, Bool, true, List, length, Option, None, Some, slice_get}
use Rattle.ncl_shape.specs.Stage.{StageData}
use Rattle.ncl_shape.specs.Pipeline.{PipelineData}
use Rattle.ncl_faults.specs.declared.variant.Variant.{Variant}
use Rattle.ncl_faults.specs.Faults.{StageFault, shows}
use Rattle.ncl_machine.specs.DelayInsensitive.{IsDelayInsensitive}
use Rattle.ncl_verdict.specs.declared.verdict.Verdict.{Verdict}
use Rattle.ncl_verdict.specs.Judgement.{verdict_of}
use Rattle.ncl_hazard.specs.Search.{question_count}
use Rattle.ncl_hazard.specs.Trying.{HasNoDataBank}
use Rattle.ncl_hazard.specs.Why.{brings}
use Rattle.ncl_refusal.specs.Breaks.{BreaksBy}
use Rattle.ncl_refusal.specs.Reached.{IsSoundWhereReached}
use Rattle.ncl_refusal.specs.Told.{Tells}
use Rattle.ncl_reaching.specs.Breaking.{BreaksIn}
use Rattle.ncl_reaching.specs.Chain.{chain}
use Rattle.ncl_reaching.specs.Reaching.{AreSoundWhereReached, first_reached, least_bringing}
use Rattle.ncl_reaching.specs.declared.breaking.WrongRun.{WrongRun}
use Rattle.ncl_reaching.specs.declared.reaching.Reached.{Reached}
use Rattle.ncl_reaching.specs.declared.reaching.Reached.TheVariants.{Never, Shown, Limit}

-- an input brings the word of a verdict to the stage of the verdict, which shows the fault there. The stages before show none at
-- words that inputs bring to them; it is the first fault of the stage that any input shows, in the order of the judgement, and the
-- input is the least that shows it
pub record IsShown (p : PipelineData) (input : List Bool) (verdict : Verdict) : Type 0 where
  pub number : ℕ
  pub counted : 1 ≤ number
  pub word : List Bool
  pub tells : Tells number word verdict
  pub wide : length input ≡ length p.inputs
  pub brought : brings p.stages (number - 1) input ≡ word
  pub stage : StageData
  pub at : slice_get p.stages (number - 1) ≡ Some stage
  pub fault : StageFault
  pub is : verdict_of stage fault word ≡ verdict
  pub shown : shows stage word fault ≡ true
  pub least : least_bringing p (number - 1) stage fault ≡ Some input
  pub first : first_reached p (number - 1) stage ≡ Some (fault, input)
  pub sound : AreSoundWhereReached p (number - 1)

-- the functions of a question about a stage, over the inputs of the pipeline, have more nodes than the limit
pub record IsPastLimit (p : PipelineData) (number limit : ℕ) : Type 0 where
  pub counted : 1 ≤ number
  pub within : number ≤ length p.stages
  pub variant : Variant
  pub past : limit < question_count (chain p number) variant

-- what an answer says
abbrev pub Answers : PipelineData → ℕ → Reached → Type 0
Answers p limit Never = IsSoundWhereReached p
Answers p limit (Shown input verdict run) = IsShown p input verdict
Answers p limit (Limit number) = IsPastLimit p number limit

-- the run, over the input alone, goes wrong in the way of the verdict: it breaks what the fault names
pub record GoesWrongAsTold (p : PipelineData) (input : List Bool) (verdict : Verdict) (run : WrongRun) : Type 0 where
  pub number : ℕ
  pub word : List Bool
  pub tells : Tells number word verdict
  pub stage : StageData
  pub at : slice_get p.stages (number - 1) ≡ Some stage
  pub fault : StageFault
  pub is : verdict_of stage fault word ≡ verdict
  pub breaks : BreaksBy p input stage run.steps fault run.lost

-- it is told exactly where no bank is reset to DATA
abbrev pub GoesWrongBy : PipelineData → List Bool → Verdict → Option WrongRun → Type 0
GoesWrongBy p input verdict None = HasNoDataBank p → ⊥
GoesWrongBy p input verdict (Some run) = HasNoDataBank p × GoesWrongAsTold p input verdict run

-- the run of a fault that an input brings to the stage after so many others, and the answer with it
abbrev pub IsRunTold : PipelineData → ℕ → List Bool → StageFault → Option WrongRun → Type 0
IsRunTold p before input fault None = HasNoDataBank p → ⊥
IsRunTold p before input fault (Some run) = HasNoDataBank p × BreaksIn p before input fault run

pub record IsFaultShown (p : PipelineData) (before : ℕ) (fault : StageFault) (input : List Bool) (verdict : Verdict) (answer : Reached) : Type 0 where
  pub run : Option WrongRun
  pub is : answer ≡ Shown input verdict run
  pub told : IsRunTold p before input fault run

-- and what it means: where no stage shows a fault at a word that comes the pipeline is delay-insensitive, if no bank is reset to
-- DATA; where one does it isn't, whatever the banks are, and if none is reset to DATA the run that is told goes wrong
abbrev pub Means : PipelineData → Reached → Type 0
Means p Never = HasNoDataBank p → IsDelayInsensitive p
Means p (Shown input verdict run) = (IsDelayInsensitive p → ⊥) × GoesWrongBy p input verdict run
Means p (Limit number) = Unit {0}
