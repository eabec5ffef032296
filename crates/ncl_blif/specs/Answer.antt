-- What the reader of a text answers: the models that it says, or the first fault.
use Rattle.std.specs.Prelude.{◌≡◌, ℕ, ◌+◌, ◌<◌, ◌⊎◌, List, [], ◌∷◌, Bool, not, ◌==◌, if◌then◌else◌, Option, Some, None, length, map, take, All, slice_get, min}
use Rattle.std.specs.List.{list_any, find}
use Rattle.std.specs.Option.{option_map}
use Rattle.ncl_blif.specs.declared.fault.BlifFault.{BlifFault}
use Rattle.ncl_blif.specs.declared.fault.BlifFault.TheVariants.{NoBits, Undriven, Cycle, Width}
use Rattle.ncl_blif.specs.declared.model.Model.{Model}
use Rattle.ncl_blif.specs.Lines.{lines_of}
use Rattle.ncl_blif.specs.Parts.{parts_of, sections_of}
use Rattle.ncl_blif.specs.Named.{NamedModel, NamedCover, named_model}
use Rattle.ncl_blif.specs.LineFaults.{first_line_fault}
use Rattle.ncl_blif.specs.Model.{Depends}
use Rattle.ncl_blif.specs.Numbered.{is_driven, signal_number, numbered_model}

-- the models that a text says
abbrev pub models_said : List ℕ → List NamedModel
models_said text = map named_model (sections_of (parts_of (lines_of text)))

-- the lesser of two numbers that may be missing
abbrev pub lesser : Option ℕ → Option ℕ → Option ℕ
lesser None b = b
lesser (Some a) None = Some a
lesser (Some a) (Some b) = Some (min a b)

-- whether a cover reads a signal without a driver
abbrev pub reads_undriven : NamedModel → NamedCover → Bool
reads_undriven model cover = list_any (λ name. not (is_driven model name)) cover.ins

-- the first line that reads a signal without a driver, as an output or in a cover
abbrev pub undriven_line : NamedModel → Option ℕ
undriven_line model =
    lesser (option_map (λ output. output.line) (find (λ output. not (is_driven model output.signal)) model.outputs))
    (option_map (λ cover. cover.line) (find (reads_undriven model) model.covers))

-- the output of the cover at a place depends on itself
abbrev pub IsCyclic : NamedModel → ℕ → Type 0
IsCyclic model place =
    (cover : NamedCover) × (slice_get model.covers place ≡ Some cover)
    × Depends (numbered_model model) (signal_number model cover.out) (signal_number model cover.out)

-- the line begins the first cover whose output depends on itself
pub record IsFirstCycle (model : NamedModel) (line : ℕ) : Type 0 where
  pub place : ℕ
  pub begins : option_map (λ cover. cover.line) (slice_get model.covers place) ≡ Some line
  pub cyclic : IsCyclic model place
  pub none_before : (k : ℕ) → k < place → IsCyclic model k → ⊥

-- a model has inputs and outputs
abbrev pub HasBits : NamedModel → Type 0
HasBits model = (0 < length model.inputs) × (0 < length model.outputs)

-- a model has no fault
pub record IsFaultless (model : NamedModel) : Type 0 where
  pub bits : HasBits model
  pub driven : undriven_line model ≡ None
  pub no_cycle : (place : ℕ) → IsCyclic model place → ⊥

-- what breaks the model of this number, in the order in which it is asked
pub data IsModelFault (number : ℕ) (model : NamedModel) : BlifFault → Type 0 where
  no_bits : (length model.inputs ≡ 0) ⊎ (length model.outputs ≡ 0) → IsModelFault number model (NoBits number)
  undriven : (line : ℕ) → HasBits model → undriven_line model ≡ Some line → IsModelFault number model (Undriven line)
  cycle : (line : ℕ) → HasBits model → undriven_line model ≡ None → IsFirstCycle model line → IsModelFault number model (Cycle line)

-- what breaks the first broken one of models; models are counted from 1
pub record IsFirstModelFault (models : List NamedModel) (fault : BlifFault) : Type 0 where
  pub place : ℕ
  pub broken : NamedModel
  pub at : slice_get models place ≡ Some broken
  pub breaks : IsModelFault (place + 1) broken fault
  pub faultless_before : All IsFaultless (take place models)

-- the first of these models, the first of which has this number, that has not as many inputs as the one
-- before has outputs
abbrev pub unjoined_model : ℕ → List NamedModel → Option ℕ
unjoined_model number [] = None
unjoined_model number (model ∷ []) = None
unjoined_model number (model ∷ next ∷ models) =
    if length next.inputs == length model.outputs then unjoined_model (number + 1) (next ∷ models)
    else Some (number + 1)

-- a text is read as these models: no line is broken, no model has a fault, and each has as many inputs as
-- the one before has outputs
pub record IsRead (text : List ℕ) (models : List Model) : Type 0 where
  pub lines : first_line_fault (lines_of text) ≡ None
  pub faultless : All IsFaultless (models_said text)
  pub joined : unjoined_model 1 (models_said text) ≡ None
  pub said : models ≡ map numbered_model (models_said text)

-- a text is refused with this fault: that of the first broken line; where no line is broken that of the
-- first model with a fault; and where no model has one, the first width that doesn't fit
pub data IsRefused (text : List ℕ) : BlifFault → Type 0 where
  line : (fault : BlifFault) → first_line_fault (lines_of text) ≡ Some fault → IsRefused text fault
  model : (fault : BlifFault) → first_line_fault (lines_of text) ≡ None → IsFirstModelFault (models_said text) fault
      → IsRefused text fault
  width : (number : ℕ) → first_line_fault (lines_of text) ≡ None → All IsFaultless (models_said text)
      → unjoined_model 1 (models_said text) ≡ Some number → IsRefused text (Width number)
