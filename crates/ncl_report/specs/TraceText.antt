-- The lines that tell a run.
use Rattle.std.specs.Prelude.{ℕ, ◌+◌, ◌==◌, Bool, true, false, List, [], ◌∷◌, ◌++◌, length, map, codes, decimal}
use Rattle.std.specs.List.{zip}
use Rattle.ncl_netlist.specs.Netlist.{NetlistData}
use Rattle.ncl_shape.specs.declared.item.Item.{Item}
use Rattle.ncl_shape.specs.declared.item.Item.TheVariants.{Cell as Fire, Raise, Lower, Take, Ready}
use Rattle.ncl_shape.specs.Pipeline.{PipelineData}
use Rattle.ncl_machine.specs.Held.{InRange}
use Rattle.ncl_sim.specs.declared.trace.Taken.{Taken}
use Rattle.ncl_sim.specs.declared.trace.End.{End}
use Rattle.ncl_sim.specs.declared.trace.End.TheVariants.{Quiet, Hazard, Over}
use Rattle.ncl_sim.specs.TimedRun.{TraceData, last_time}
use Rattle.ncl_lines.specs.Line.{line, cell_name}

-- a bit by its rails: `1` where rail 1 alone is high, `0` where rail 0 alone is, `X` where both are, and `-` where none is
abbrev pub mark_of : Bool → Bool → ℕ
mark_of false true = 49
mark_of true false = 48
mark_of true true = 88
mark_of false false = 45

-- the bits of two words, rail by rail
abbrev pub marks : List Bool → List Bool → List ℕ
marks rail0 rail1 = map (λ rails. mark_of rails.0 rails.1) (zip rail0 rail1)

-- the line that tells a word of this number
abbrev pub taken_line : ℕ → Taken → List ℕ
taken_line number taken =
    line (codes "word " ++ decimal number ++ codes " at " ++ decimal taken.time ++ codes ": " ++ marks taken.pair.rail0 taken.pair.rail1)

-- a line for each word, which count on from a number
abbrev pub taken_lines : ℕ → List Taken → List ℕ
taken_lines number [] = []
taken_lines number (taken ∷ delivered) = taken_line number taken ++ taken_lines (number + 1) delivered

-- who lost what it was about to do: a cell, a bit of the source, which counts from 1, or the sink
abbrev pub who : NetlistData → Item → List ℕ
who n (Fire cell) = codes "cell " ++ cell_name n cell.0
who n (Raise bit) = codes "source bit " ++ decimal (bit + 1)
who n (Lower bit) = codes "source bit " ++ decimal (bit + 1)
who n Take = codes "sink"
who n Ready = codes "sink"

-- a run that ends where nothing can move has stalled where not as many words were delivered as are due
abbrev pub quiet_word : Bool → List ℕ
quiet_word true = codes "quiet"
quiet_word false = codes "stalled"

-- how a run ends, and at what time; whether as many words were delivered as are due
abbrev pub end_words : NetlistData → End → ℕ → Bool → List ℕ
end_words n Quiet last all = quiet_word all ++ codes " at " ++ decimal last ++ codes " after "
end_words n (Hazard item time) last all = codes "hazard at " ++ decimal time ++ codes ": " ++ who n item ++ codes ", after "
end_words n Over last all = codes "over after "

-- how many steps there were, and how many words of those due were delivered
abbrev pub counts : ℕ → ℕ → ℕ → List ℕ
counts steps delivered due =
    decimal steps ++ codes " steps, delivered " ++ decimal delivered ++ codes " of " ++ decimal due

-- the line that tells how a run ends in which so many words are due
abbrev pub end_line : PipelineData → TraceData → ℕ → List ℕ
end_line p t due =
    line (end_words p.netlist t.end (last_time 0 t.steps) (length t.delivered == due) ++ counts (length t.steps) (length t.delivered) due)

-- the lines that tell a run in which so many words are due: one for each word that was delivered, and one for the end
abbrev pub trace_lines : PipelineData → TraceData → ℕ → List ℕ
trace_lines p t due = taken_lines 1 t.delivered ++ end_line p t due

-- an item that was lost is one of the pipeline's
abbrev pub NamesItemOf : PipelineData → End → Type 0
NamesItemOf p (Hazard item time) = InRange p item
NamesItemOf p end = Unit {0}
