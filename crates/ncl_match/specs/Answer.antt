-- What is answered of a pipeline and models.
use Rattle.std.specs.Prelude.{◌≡◌, ◌≢◌, ℕ, ◌-◌, ◌<◌, List, [], ◌∷◌, Bool, false, length, All, Result, Ok, Err, slice_index_or}
use Rattle.ncl_blif.specs.declared.model.Model.{Model}
use Rattle.ncl_blif.specs.Meaning.{Computes, width_of}
use Rattle.ncl_match.specs.Circuit.{Circuit, computed}
use Rattle.ncl_space.specs.Beads.{bead_count}
use Rattle.ncl_match.specs.Listed.{IsListed}
use Rattle.ncl_match.specs.Order.{IsNoLater}
use Rattle.ncl_match.specs.Runs.{IsAnswerToRun}
use Rattle.ncl_match.specs.declared.answer.BitAnswer.{BitAnswer}
use Rattle.ncl_match.specs.declared.answer.BitAnswer.TheVariants as bit
use Rattle.ncl_match.specs.declared.answer.RunAnswer.{RunAnswer}
use Rattle.ncl_match.specs.declared.answer.RunAnswer.TheVariants as run
use Rattle.ncl_match.specs.declared.answer.Compared.{Compared}
use Rattle.ncl_match.specs.declared.answer.Compared.TheVariants as compared
use Rattle.ncl_match.specs.declared.answer.CompareFault.{CompareFault}
use Rattle.ncl_match.specs.declared.answer.CompareFault.TheVariants as fault

-- the tables of an output, from 1, have more beads than the limit: some of them do
pub record IsOver (c : Circuit) (models : List Model) (limit output : ℕ) : Type 0 where
  pub tables : List (List Bool)
  pub listed : All (IsListed c models (output - 1)) tables
  pub more : limit < bead_count (length c.inputs) tables

-- the bit of an output, from 1
abbrev pub bit_of : List Bool → ℕ → Bool
bit_of answer output = slice_index_or answer (output - 1) false

-- the pipeline and the models give words at this one that differ in an output, from 1
pub record DiffersAt (c : Circuit) (models : List Model) (output : ℕ) (word : List Bool) : Type 0 where
  pub wide : length word ≡ length c.inputs
  pub answer : List Bool
  pub computes : Computes models word answer
  pub differ : bit_of (computed c word) output ≢ bit_of answer output

-- the answer to one output, from 1
abbrev pub IsBitAnswer : Circuit → List Model → ℕ → ℕ → BitAnswer → Type 0
IsBitAnswer c models limit output bit.Full = IsOver c models limit output
IsBitAnswer c models limit output (bit.Differ word) =
    (IsOver c models limit output → ⊥) × DiffersAt c models output word × ((earlier : List Bool) → DiffersAt c models output earlier → IsNoLater word earlier)
IsBitAnswer c models limit output bit.Same =
    (IsOver c models limit output → ⊥) × ((word : List Bool) → DiffersAt c models output word → ⊥)

-- the answer to the outputs after `low` up to `high`
abbrev pub IsRunAnswer : Circuit → List Model → ℕ → ℕ → ℕ → RunAnswer → Type 0
IsRunAnswer c models limit low high answer = IsAnswerToRun (IsOver c models limit) (DiffersAt c models) low high answer

-- how many bits the words have that models give: as many as the last of them has outputs
abbrev pub outputs_of : List Model → ℕ
outputs_of [] = 0
outputs_of (model ∷ []) = length model.outputs
outputs_of (model ∷ next ∷ models) = outputs_of (next ∷ models)

-- the words have as many bits in the pipeline as in the models
pub record HaveWidths (c : Circuit) (models : List Model) : Type 0 where
  pub inputs : length c.inputs ≡ width_of models
  pub outputs : length c.outputs ≡ outputs_of models

-- the answer to all outputs
abbrev pub IsAnswer : Circuit → List Model → ℕ → Result Compared CompareFault → Type 0
IsAnswer c models limit (Ok compared.Same) = HaveWidths c models × IsRunAnswer c models limit 0 (length c.outputs) run.Same
IsAnswer c models limit (Ok (compared.Differ word output)) = HaveWidths c models × IsRunAnswer c models limit 0 (length c.outputs) (run.Differ word output)
IsAnswer c models limit (Ok compared.Widths) = HaveWidths c models → ⊥
IsAnswer c models limit (Err (fault.Full output)) = HaveWidths c models × IsRunAnswer c models limit 0 (length c.outputs) (run.Full output)
IsAnswer c models limit (Err fault.Memory) = Unit {0}
