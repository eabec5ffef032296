-- The faults of a stage that words show which inputs of the pipeline bring to it, each with the least such input.
use Rattle.std.specs.Prelude.{◌≡◌, ℕ, ◌<◌, Bool, List, length, map, Option, Some, slice_get}
use Rattle.std.specs.List.{find}
use Rattle.std.specs.Option.{option_map}
use Rattle.ncl_shape.specs.Stage.{StageData}
use Rattle.ncl_shape.specs.Pipeline.{PipelineData}
use Rattle.ncl_space.specs.Table.{words}
use Rattle.ncl_faults.specs.declared.variant.Variant.{Variant}
use Rattle.ncl_faults.specs.Faults.{StageFault, shows}
use Rattle.ncl_stage.specs.LeastWords.{faults_of, first_of}
use Rattle.ncl_machine.specs.SoundAt.{IsSoundAt}
use Rattle.ncl_verdict.specs.Judgement.{variants}
use Rattle.ncl_hazard.specs.Why.{brings}

-- an input brings to the stage after so many others a word that shows a fault of it
abbrev pub brings_fault : PipelineData → ℕ → StageData → StageFault → List Bool → Bool
brings_fault p before s fault input = shows s (brings p.stages before input) fault

-- the least input that does, as a binary number
abbrev pub least_bringing : PipelineData → ℕ → StageData → StageFault → Option (List Bool)
least_bringing p before s fault = find (brings_fault p before s fault) (words (length p.inputs))

-- which input, if any, shows a fault
abbrev pub Inputs : Type 0
Inputs = StageFault → Option (List Bool)

-- a fault with the input that shows it
abbrev pub Shown : Type 0
Shown = StageFault × List Bool

abbrev pub shown_by : Inputs → StageFault → Option Shown
shown_by inputs fault = option_map (λ input. (fault, input)) (inputs fault)

-- the first fault of a stage that some input shows, at a variant and at all in their order, which is that of the judgement
abbrev pub first_at : Inputs → StageData → Variant → Option Shown
first_at inputs s variant = first_of (map (shown_by inputs) (faults_of s variant))

abbrev pub first_shown : Inputs → StageData → Option Shown
first_shown inputs s = first_of (map (first_at inputs s) (variants s))

-- the first fault of the stage after so many others that an input brings to it, with the least input that does
abbrev pub first_reached : PipelineData → ℕ → StageData → Option Shown
first_reached p before s = first_shown (least_bringing p before s) s

-- the first so many stages show no fault at a word that an input brings to them
abbrev pub AreSoundWhereReached : PipelineData → ℕ → Type 0
AreSoundWhereReached p before = (input : List Bool) → length input ≡ length p.inputs → (k : ℕ) (s : StageData) → k < before → slice_get p.stages k ≡ Some s → IsSoundAt s (brings p.stages k input)
