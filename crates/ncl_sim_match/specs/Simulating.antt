-- What `sim` replies to the files of a netlist, of delays and of words.
use Rattle.std.specs.Prelude.{◌≡◌, ℕ, ◌<◌, ◌≤◌, ◌==◌, Bool, true, false, List, length, map, Option, Some, None, codes}
use Rattle.ncl_base.specs.Files.{Files}
use Rattle.ncl_base.specs.Words.{text_of}
use Rattle.ncl_base.specs.declared.source.TheConstants.{MOST_BYTES}
use Rattle.ncl_netlist.specs.Netlist.{NetlistData}
use Rattle.ncl_shape.specs.Pipeline.{PipelineData}
use Rattle.ncl_delay.specs.declared.fault.DelayFault.{DelayFault}
use Rattle.ncl_delay.specs.declared.fault.WordsFault.{WordsFault}
use Rattle.ncl_delay.specs.Lines.{told_lines}
use Rattle.ncl_delay.specs.Delays.{DelaysData}
use Rattle.ncl_delay.specs.DelayText.{cell_names, fault_in, stated_delays}
use Rattle.ncl_delay.specs.WordText.{words_fault}
use Rattle.ncl_sim.specs.declared.trace.End.{End}
use Rattle.ncl_sim.specs.declared.trace.End.TheVariants.{Quiet, Hazard, Over}
use Rattle.ncl_sim.specs.TimedRun.{TraceData, IsTimedRun, words_due}
use Rattle.ncl_lines.specs.Line.{line}
use Rattle.ncl_report.specs.DelayText.{delay_line, words_line}
use Rattle.ncl_report.specs.TraceText.{trace_lines}
use Rattle.ncl_vcd.specs.RunDump.{dump_of}
use Rattle.ncl_check.specs.Text.{IsPipelineText, IsRefusedText}
use Rattle.ncl_reply.specs.Replies.{IsReadReply}

-- the bytes state these delays for the cells of the netlist, and for the source and the sink
pub record AreDelaysText (n : NetlistData) (bytes : List ℕ) (d : DelaysData) : Type 0 where
  pub few : length bytes ≤ MOST_BYTES
  pub unbroken : fault_in (cell_names n) (told_lines bytes) ≡ None
  pub stated : d ≡ stated_delays (cell_names n) (told_lines bytes)

-- the bytes are no file of delays for the netlist, and this line tells why
pub data AreRefusedDelays (n : NetlistData) (bytes : List ℕ) : List ℕ → Type 0 where
  long_delays : MOST_BYTES < length bytes → AreRefusedDelays n bytes (line (codes "delays: too long"))
  broken_delays : length bytes ≤ MOST_BYTES → (fault : DelayFault) → fault_in (cell_names n) (told_lines bytes) ≡ Some fault → AreRefusedDelays n bytes (delay_line fault)

-- the bytes say these words, each of this width
pub record AreWordsText (width : ℕ) (bytes : List ℕ) (words : List (List Bool)) : Type 0 where
  pub few : length bytes ≤ MOST_BYTES
  pub unbroken : words_fault width 0 (told_lines bytes) ≡ None
  pub said : map text_of words ≡ map (λ line. line.text) (told_lines bytes)

-- the bytes are no file of words of this width, and this line tells why
pub data AreRefusedWords (width : ℕ) (bytes : List ℕ) : List ℕ → Type 0 where
  long_words : MOST_BYTES < length bytes → AreRefusedWords width bytes (line (codes "words: too long"))
  broken_words : length bytes ≤ MOST_BYTES → (fault : WordsFault) → words_fault width 0 (told_lines bytes) ≡ Some fault → AreRefusedWords width bytes (words_line fault)

-- the status of a run that ends so; whether as many words were delivered as are due
abbrev pub end_status : End → Bool → ℕ
end_status Quiet true = 0
end_status Quiet false = 1
end_status (Hazard item time) all = 1
end_status Over all = 8

-- the status of a run of a pipeline over some words
abbrev pub run_status : PipelineData → TraceData → List (List Bool) → ℕ
run_status p t offered = end_status t.end (length t.delivered == words_due p offered)

-- the text that tells a run of a pipeline over some words: its value change dump where that is asked for, and else its
-- lines
abbrev pub run_text : Bool → PipelineData → TraceData → List (List Bool) → List ℕ
run_text true p t offered = dump_of p offered t.steps
run_text false p t offered = trace_lines p t (words_due p offered)

-- what is replied to words that are there, with the pipeline and the delays: its one timed run over them, told by a value
-- change dump or by its lines
pub record IsRunReply (p : PipelineData) (d : DelaysData) (offered : List (List Bool)) (vcd : Bool) (status : ℕ) (text : List ℕ) : Type 0 where
  pub trace : TraceData
  pub run : IsTimedRun p d offered trace
  pub ends : status ≡ run_status p trace offered
  pub told : text ≡ run_text vcd p trace offered

-- what is replied to the words in a file, where the pipeline and the delays are there
abbrev pub IsWordsReply : Option Files → PipelineData → DelaysData → List ℕ → Bool → ℕ → List ℕ → Type 0
IsWordsReply told p d words vcd = IsReadReply told words (AreRefusedWords (length p.inputs)) (AreWordsText (length p.inputs)) (λ offered. IsRunReply p d offered vcd)

-- what is replied to the delays in a file and to those words, where the pipeline is there
abbrev pub IsDelaysReply : Option Files → PipelineData → List ℕ → List ℕ → Bool → ℕ → List ℕ → Type 0
IsDelaysReply told p delays words vcd = IsReadReply told delays (AreRefusedDelays p.netlist) (AreDelaysText p.netlist) (λ d. IsWordsReply told p d words vcd)

-- what is replied to the three files
abbrev pub IsSimReply : Option Files → List ℕ → List ℕ → List ℕ → Bool → ℕ → List ℕ → Type 0
IsSimReply told netlist delays words vcd = IsReadReply told netlist IsRefusedText IsPipelineText (λ p. IsDelaysReply told p delays words vcd)
