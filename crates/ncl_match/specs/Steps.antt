-- The covers of models in one row, where each signal of each model has a number.
use Rattle.std.specs.Prelude.{◌≡◌, ℕ, ◌+◌, ◌<◌, ◌^◌, List, [], ◌∷◌, ◌++◌, Bool, false, Option, Some, length, map, All, Contains, slice_get, slice_index_or, ◌⊎◌}
use Rattle.std.specs.List.{range_with_len}
use Rattle.ncl_blif.specs.declared.model.Cover.{Cover}
use Rattle.ncl_blif.specs.declared.model.Model.{Model}
use Rattle.ncl_blif.specs.Meaning.{cover_value, width_of}
use Rattle.ncl_blif.specs.Model.{AreModels}
use Rattle.ncl_match.specs.declared.steps.Step.{Step}
use Rattle.ncl_match.specs.Pairs.{WordFunction}

-- the bit of a signal of this number
abbrev pub bit_at : List Bool → ℕ → Bool
bit_at bits number = slice_index_or bits number false

-- the value of a step where the signals before it have these bits
abbrev pub step_value : List Bool → Step → Bool
step_value bits step = cover_value step.cover.now.on step.cover.now.rows (map (bit_at bits) step.ins)

-- the bits of all signals, where those before the steps have these: each step reads signals before it
abbrev pub bits_after : List Bool → List Step → List Bool
bits_after bits [] = bits
bits_after bits (step ∷ steps) = bits_after (bits ++ step_value bits step ∷ []) steps

-- the function of a signal: the signals before the steps are the bits of the word
abbrev pub signal_function : List Step → ℕ → WordFunction
signal_function steps number word = bit_at (bits_after word steps) number

-- after n signals each step reads signals before it, and has as many as its rows have literals
pub record AreOrdered (n : ℕ) (steps : List Step) : Type 0 where
  pub before : (j : ℕ) (step : Step) → slice_get steps j ≡ Some step → All (λ x. x < n + j) step.ins
  pub widths : (j : ℕ) (step : Step) → slice_get steps j ≡ Some step → All (λ row. length row ≡ length step.ins) step.cover.now.rows

-- one of the steps is that of a cover of a model whose signals have these numbers
pub record HasStep (n : ℕ) (steps : List Step) (number : ℕ → Option ℕ) (cover : Cover) : Type 0 where
  pub place : ℕ
  pub step : Step
  pub at : slice_get steps place ≡ Some step
  pub is : step.cover.now ≡ cover
  pub out : number cover.out ≡ Some (n + place)
  pub ins : map number cover.ins ≡ map Some step.ins

-- the signals of a model have numbers: its inputs and its outputs these, and each cover has a step
pub record IsNumbered (n : ℕ) (steps : List Step) (model : Model) (number : ℕ → Option ℕ) (ins outs : List ℕ) : Type 0 where
  pub inputs : map number model.inputs ≡ map Some ins
  pub covers : (cover : Cover) → Contains model.covers cover → HasStep n steps number cover
  pub outputs : map number model.outputs ≡ map Some outs

-- so have those of models one after another: the outputs of each are the inputs of the next, by position
abbrev pub AreNumbered : ℕ → List Step → List Model → List ℕ → List ℕ → Type 0
AreNumbered n steps [] ins outs = outs ≡ ins
AreNumbered n steps (model ∷ models) ins outs =
    (number : ℕ → Option ℕ) × (between : List ℕ) × IsNumbered n steps model number ins between × AreNumbered n steps models between outs

-- the covers of all models stand in one row, where the outputs of the last model have these numbers
pub record AreInRow (models : List Model) (steps : List Step) (outs : List ℕ) : Type 0 where
  pub are_models : AreModels models
  pub numbered : AreNumbered (width_of models) steps models (range_with_len 0 (width_of models)) outs
  pub ordered : AreOrdered (width_of models) steps
  pub below : All (λ x. x < width_of models + length steps) outs
  pub few : width_of models + length steps < 2 ^ 32

-- steps that there were stand where they stood
abbrev pub Stay : List Step → List Step → Type 0
Stay old new = (j : ℕ) (step : Step) → slice_get old j ≡ Some step → slice_get new j ≡ Some step

-- the step of a cover was put after others, where the signals that it reads have these numbers
pub record AddsStep (old new : List Step) (number : ℕ → Option ℕ) (cover : Cover) : Type 0 where
  pub step : Step
  pub is : step.cover.now ≡ cover
  pub ins : map number cover.ins ≡ map Some step.ins
  pub steps : new ≡ old ++ step ∷ []

-- a cover that is done drives the signal
pub record IsOutOf (model : Model) (done : List ℕ) (signal : ℕ) : Type 0 where
  pub place : ℕ
  pub cover : Cover
  pub is_done : Contains done place
  pub at : slice_get model.covers place ≡ Some cover
  pub out : cover.out ≡ signal

-- the steps of some covers of a model were put after others
pub record AreAdded (n : ℕ) (old new : List Step) (model : Model) (ins : List ℕ) (number : ℕ → Option ℕ) (done : List ℕ) : Type 0 where
  pub stay : Stay old new
  pub count : length new ≡ length old + length done
  pub ordered : AreOrdered n new
  -- the inputs have these numbers, and each cover that is done has a step
  pub inputs : (i : ℕ) → i < length ins → number i ≡ Some (slice_index_or ins i 0)
  pub covers : (place : ℕ) (cover : Cover) → Contains done place → slice_get model.covers place ≡ Some cover → HasStep n new number cover
  -- nothing else has a number, and each number is that of a signal so far
  pub only : (signal number_of : ℕ) → number signal ≡ Some number_of → (signal < length ins) ⊎ IsOutOf model done signal
  pub below : (signal number_of : ℕ) → number signal ≡ Some number_of → number_of < n + length new

-- the steps of all covers of a model were put after others
pub record AddsModel (n : ℕ) (old new : List Step) (model : Model) (ins outs : List ℕ) : Type 0 where
  pub number : ℕ → Option ℕ
  pub numbered : IsNumbered n new model number ins outs
  pub stay : Stay old new
  pub ordered : AreOrdered n new
  pub below : All (λ x. x < n + length new) outs
  pub count : length new ≡ length old + length model.covers
