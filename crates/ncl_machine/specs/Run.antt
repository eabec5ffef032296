-- Runs: the firing orders of a pipeline from reset. Nothing is said of delays, so every assignment of
-- delays gives one of them.
use Rattle.std.specs.Prelude.{◌≡◌, ◌≢◌, true, false, Bool, List, [], ◌∷◌, length}
use Rattle.std.specs.List.{AllByRecursion}
use Rattle.ncl_shape.specs.declared.item.Item.{Item}
use Rattle.ncl_shape.specs.Pipeline.{PipelineData}
use Rattle.ncl_machine.specs.State.{State, reset}
use Rattle.ncl_machine.specs.Steps.{enabled, step}

-- the items can happen one after another from a state: each is enabled where those in front of it lead
abbrev pub IsRunFrom : PipelineData → State → List Item → Type 0
IsRunFrom p s [] = Unit {0}
IsRunFrom p s (item ∷ items) = (enabled p s item ≡ true) × IsRunFrom p (step p s item) items

-- the state that the items lead to
abbrev pub after : PipelineData → State → List Item → State
after p s [] = s
after p s (item ∷ items) = after p (step p s item) items

-- a run over some words
abbrev pub IsRun : PipelineData → List (List Bool) → List Item → Type 0
IsRun p offered items = IsRunFrom p (reset p offered) items

-- the words have the width of the pipeline's inputs
abbrev pub AreWordsOf : PipelineData → List (List Bool) → Type 0
AreWordsOf p offered = AllByRecursion (λ (word : List Bool). length word ≡ length p.inputs) offered

-- nothing can move
abbrev pub IsQuiet : PipelineData → State → Type 0
IsQuiet p s = (item : Item) → enabled p s item ≡ false

-- persistent: where two different items are enabled, the second still is after the first has stepped
abbrev pub IsPersistent : PipelineData → State → Type 0
IsPersistent p s = (item other : Item) → item ≢ other → enabled p s item ≡ true → enabled p s other ≡ true → enabled p (step p s item) other ≡ true
