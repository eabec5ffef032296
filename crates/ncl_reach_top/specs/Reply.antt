-- What `ncl_reach` replies to the bytes of a netlist.
use Rattle.std.specs.Prelude.{◌≡◌, ℕ, ◌-◌, ◌<◌, All, IfSome, Bool, List, [], ◌++◌, length, take, Option, None, Some, codes, decimal}
use Rattle.ncl_base.specs.Words.{text_of as word_text}
use Rattle.ncl_netlist.specs.declared.ids.CellId.{CellId}
use Rattle.ncl_netlist.specs.Netlist.{NetlistData}
use Rattle.ncl_shape.specs.Pipeline.{PipelineData}
use Rattle.ncl_verdict.specs.declared.verdict.Verdict.{Verdict}
use Rattle.ncl_verdict.specs.declared.verdict.Verdict.TheVariants as verdict
use Rattle.ncl_machine.specs.Held.{InRange}
use Rattle.ncl_hazard.specs.Trying.{HasNoDataBank}
use Rattle.ncl_lines.specs.Line.{line, cell_name}
use Rattle.ncl_lines.specs.VerdictText.{verdict_line}
use Rattle.ncl_lines.specs.WhyText.{step_lines}
use Rattle.ncl_check.specs.Reply.{verdict_on}
use Rattle.ncl_check.specs.Text.{IsPipelineText, IsRefusedText}
use Rattle.ncl_check.specs.declared.reply.Outcome.{Outcome}
use Rattle.ncl_check.specs.declared.reply.Outcome.TheVariants.{Accepted, Refused, NoPipeline, Unjudged}
use Rattle.ncl_reaching.specs.declared.breaking.WrongRun.{WrongRun}
use Rattle.ncl_reaching.specs.declared.reaching.Reached.TheVariants.{Never, Shown, Limit}
use Rattle.ncl_reaching.specs.Answers.{Answers, GoesWrongBy, Means}

-- the line that `check` has for a verdict
abbrev pub line_on : ℕ → PipelineData → Verdict → List ℕ
line_on limit p v = verdict_line p.netlist (length p.stages) limit v

-- a line with an input at its end, before the line feed
abbrev pub with_input : List ℕ → List Bool → List ℕ
with_input text input = take (length text - 1) text ++ codes ", input " ++ word_text input ++ codes "\n"

-- what breaks at the end of a run: a cell that loses its excitation, or by the verdict an output that is illegal, or a bank that
-- stays full
abbrev pub end_line : NetlistData → Verdict → Option CellId → List ℕ
end_line n v (Some cell) = line (codes "lost: cell " ++ cell_name n cell.0)
end_line n (verdict.BothRails number output word) None = line (codes "illegal: output " ++ decimal output)
end_line n (verdict.NoRail number output word) None = line (codes "stops: bank " ++ decimal number)
end_line n v None = []

-- the lines of the run that is told, if one is: each step, and what breaks
abbrev pub run_lines : NetlistData → Verdict → Option WrongRun → List ℕ
run_lines n v None = []
run_lines n v (Some run) = step_lines n 1 run.steps ++ end_line n v run.lost

-- a run has items of the pipeline alone, and loses a cell of it, if any
pub record NamesItemsOf (p : PipelineData) (run : WrongRun) : Type 0 where
  pub items : All (InRange p) run.steps
  pub cell : IfSome run.lost (λ (cell : CellId). cell.0 < length p.netlist.cells)

-- what is replied to a pipeline, where a stage and a question may have at most so many nodes
pub data IsPipelineReply (limit : ℕ) (p : PipelineData) : Outcome → List ℕ → Type 0 where
  -- no bank holds a word at reset, and no input brings to any stage a word at which that shows a fault
  never : HasNoDataBank p → Answers p limit Never → IsPipelineReply limit p Accepted (line_on limit p verdict.Accepted)
  -- each stage is sound at all words
  sound : verdict_on limit p ≡ verdict.Accepted → IsPipelineReply limit p Accepted (line_on limit p verdict.Accepted)
  -- no input brings a fault, but some bank holds a word at reset and the judgement doesn't accept: nothing is known of such words
  held : (HasNoDataBank p → ⊥) → (verdict_on limit p ≡ verdict.Accepted → ⊥) → Answers p limit Never → IsPipelineReply limit p Unjudged (line (codes "held words: no input brings a fault"))
  -- an input brings a fault, and where no bank holds a word at reset the run over it goes wrong
  shown : (input : List Bool) (v : Verdict) (run : Option WrongRun) → Answers p limit (Shown input v run) → GoesWrongBy p input v run
      → IsPipelineReply limit p Refused (with_input (line_on limit p v) input ++ run_lines p.netlist v run)
  -- a question has more nodes
  past : (stage : ℕ) → Answers p limit (Limit stage) → IsPipelineReply limit p Unjudged (line_on limit p (verdict.Limit stage))

-- what is replied to the bytes of a file: why they are the text of no pipeline, or what is replied to the pipeline
pub data IsReachReply (limit : ℕ) (bytes : List ℕ) : Outcome → List ℕ → Type 0 where
  refused : (text : List ℕ) → IsRefusedText bytes text → IsReachReply limit bytes NoPipeline text
  replied : (p : PipelineData) → IsPipelineText bytes p → (outcome : Outcome) (text : List ℕ) → IsPipelineReply limit p outcome text → IsReachReply limit bytes outcome text

-- the text tells a stage, a fault, a word and an input that brings the word to the stage, which shows the fault there: the pipeline
-- isn't delay-insensitive. If no bank holds a word at reset it tells a run too, which over this input alone goes wrong as the fault
-- says
pub record IsWrongFor (limit : ℕ) (p : PipelineData) (text : List ℕ) : Type 0 where
  pub verdict : Verdict
  pub input : List Bool
  pub run : Option WrongRun
  pub told : text ≡ with_input (line_on limit p verdict) input ++ run_lines p.netlist verdict run
  pub shown : Answers p limit (Shown input verdict run)
  pub means : Means p (Shown input verdict run)

-- the bytes are the text of such a pipeline
pub record IsWrongForInput (limit : ℕ) (bytes text : List ℕ) : Type 0 where
  pub pipeline : PipelineData
  pub is : IsPipelineText bytes pipeline
  pub wrong : IsWrongFor limit pipeline text
