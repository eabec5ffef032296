-- What is asked of a pipeline and models.
use Rattle.std.specs.Prelude.{ℕ, ◌≤◌, List, length}
use Rattle.ncl_blif.specs.declared.model.Model.{Model}
use Rattle.ncl_blif.specs.Model.{AreModels}
use Rattle.ncl_match.specs.Circuit.{Circuit}
use Rattle.ncl_match.specs.Answer.{HaveWidths, IsRunAnswer}
use Rattle.ncl_match.specs.declared.answer.RunAnswer.{RunAnswer}

-- what is asked of each output
pub record QuestionData : Type 0 where
  pub circuit : Circuit
  pub models : List Model
  pub limit : ℕ

-- the output, from 1, can be asked
pub record CanBeAsked (q : QuestionData) (output : ℕ) : Type 0 where
  pub are_models : AreModels q.models
  pub some_limit : 1 ≤ q.limit
  pub widths : HaveWidths q.circuit q.models
  pub first : 1 ≤ output
  pub last : output ≤ length q.circuit.outputs

-- so can all outputs of a run
pub record CanRun (q : QuestionData) (low high : ℕ) : Type 0 where
  pub are_models : AreModels q.models
  pub some_limit : 1 ≤ q.limit
  pub widths : HaveWidths q.circuit q.models
  pub in_order : low ≤ high
  pub last : high ≤ length q.circuit.outputs

-- the answer to a run
abbrev pub RunAnswers : QuestionData → ℕ → ℕ → RunAnswer → Type 0
RunAnswers q low high answer = IsRunAnswer q.circuit q.models q.limit low high answer
