-- What `demo` replies.
use Rattle.std.specs.Prelude.{◌≡◌, ℕ, Bool, List, ◌++◌, length}
use Rattle.ncl_blif.specs.declared.model.Model.{Model}
use Rattle.ncl_netlist.specs.Netlist.{NetlistData}
use Rattle.ncl_shape.specs.declared.item.Item.{Item}
use Rattle.ncl_shape.specs.Pipeline.{PipelineData}
use Rattle.ncl_shape.specs.Shape.{Shape}
use Rattle.ncl_verdict.specs.declared.verdict.Verdict.TheVariants as verdict
use Rattle.ncl_writer.specs.Text.{text_of}
use Rattle.ncl_compile.specs.Compiled.{Compiled}
use Rattle.ncl_demo.specs.Adder.{IsAdder}
use Rattle.ncl_demo.specs.Offered.{demo_words}
use Rattle.ncl_delay.specs.Delays.{DelaysData, delay_of}
use Rattle.ncl_sim.specs.declared.trace.End.TheVariants.{Quiet}
use Rattle.ncl_sim.specs.TimedRun.{TraceData, IsTimedRun}
use Rattle.ncl_report.specs.DemoText.{demo_lines}
use Rattle.ncl_check.specs.Reply.{verdict_on, verdict_text}
use Rattle.ncl_command.specs.declared.command.TheConstants.{MOST_NODES}

-- every item takes the time 1
abbrev pub IsUnit : DelaysData → Type 0
IsUnit d = (item : Item) (rising : Bool) → delay_of d item rising ≡ 1

-- the netlist is one that is compiled from the models of the adder of so many bits
pub record IsDemoNetlist (bits : ℕ) (n : NetlistData) : Type 0 where
  pub models : List Model
  pub adder : IsAdder bits models
  pub compiled : Compiled models n

-- the pipeline of such a netlist
pub record IsDemoPipeline (bits : ℕ) (p : PipelineData) : Type 0 where
  pub made : IsDemoNetlist bits p.netlist
  pub shape : Shape p.netlist p

-- the run of the pipeline over the words of the demo, in which every item takes the time 1: it ends where nothing can
-- move any more, and as many words were delivered as offered
pub record IsDemoRun (bits : ℕ) (p : PipelineData) (t : TraceData) : Type 0 where
  pub delays : DelaysData
  pub unit : IsUnit delays
  pub run : IsTimedRun p delays (demo_words bits) t
  pub quiet : t.end ≡ Quiet
  pub whole : length t.delivered ≡ length (demo_words bits)

-- what `demo` replies for so many bits: where its pipeline is accepted, the run; and where a stage passes the limit of
-- nodes, the verdict and the netlist. The choice of gates is free, so the reply to any such pipeline is right
pub data IsDemoReply (bits : ℕ) : ℕ → List ℕ → Type 0 where
  shown : (p : PipelineData) → IsDemoPipeline bits p → verdict_on MOST_NODES p ≡ verdict.Accepted
      → (t : TraceData) → IsDemoRun bits p t → IsDemoReply bits 0 (demo_lines bits p t (demo_words bits))
  too_large : (p : PipelineData) → IsDemoPipeline bits p → (stage : ℕ) → verdict_on MOST_NODES p ≡ verdict.Limit stage
      → IsDemoReply bits 6 (verdict_text MOST_NODES p ++ text_of p.netlist)
