-- What `check` replies to the bytes of a file.
use Rattle.std.specs.Prelude.{◌≡◌, ℕ, Bool, true, false, List, ◌++◌, length}
use Rattle.ncl_shape.specs.Pipeline.{PipelineData}
use Rattle.ncl_verdict.specs.declared.verdict.Verdict.{Verdict}
use Rattle.ncl_verdict.specs.declared.verdict.Verdict.TheVariants as verdict
use Rattle.ncl_verdict.specs.Judgement.{judgement}
use Rattle.ncl_lines.specs.VerdictText.{verdict_line}
use Rattle.ncl_lines.specs.WhyText.{IsWhyText}
use Rattle.ncl_check.specs.Text.{IsPipelineText, IsRefusedText}
use Rattle.ncl_check.specs.declared.reply.Outcome.{Outcome}
use Rattle.ncl_check.specs.declared.reply.Outcome.TheVariants.{Accepted, Refused, NoPipeline, Unjudged}

-- how a check ends whose judgement is this verdict
abbrev pub outcome_of : Verdict → Outcome
outcome_of verdict.Accepted = Accepted
outcome_of (verdict.BothRails stage output word) = Refused
outcome_of (verdict.NoRail stage output word) = Refused
outcome_of (verdict.Incomplete stage bit word) = Refused
outcome_of (verdict.Orphan stage cell word) = Refused
outcome_of (verdict.Limit stage) = Unjudged

-- the verdict on a pipeline whose stages may have at most so many nodes
abbrev pub verdict_on : ℕ → PipelineData → Verdict
verdict_on limit p = judgement limit p.stages

-- the line that tells it
abbrev pub verdict_text : ℕ → PipelineData → List ℕ
verdict_text limit p = verdict_line p.netlist (length p.stages) limit (verdict_on limit p)

-- what is told of a pipeline: that line, and behind it, where it is asked why, the lines that explain an orphan
abbrev pub IsVerdictText : Bool → ℕ → PipelineData → List ℕ → Type 0
IsVerdictText false limit p text = text ≡ verdict_text limit p
IsVerdictText true limit p text = (lines : List ℕ) × IsWhyText limit p (verdict_on limit p) lines × (text ≡ verdict_text limit p ++ lines)

-- what `check` replies to the bytes of a file, where a stage may have at most so many nodes, and it is asked why or not: why
-- they are the text of no pipeline, or the verdict on the pipeline
pub data IsCheckReply (limit : ℕ) (why : Bool) (bytes : List ℕ) : Outcome → List ℕ → Type 0 where
  refused : (text : List ℕ) → IsRefusedText bytes text → IsCheckReply limit why bytes NoPipeline text
  judged : (p : PipelineData) → IsPipelineText bytes p → (text : List ℕ) → IsVerdictText why limit p text → IsCheckReply limit why bytes (outcome_of (verdict_on limit p)) text
