-- The lines that tell a demo.
use Rattle.std.specs.Prelude.{ℕ, ◌+◌, Bool, List, ◌++◌, length, codes, decimal}
use Rattle.std.specs.List.{zip, flat_map}
use Rattle.ncl_base.specs.Words.{text_of as word_text}
use Rattle.ncl_shape.specs.Pipeline.{PipelineData}
use Rattle.ncl_sim.specs.declared.trace.Taken.{Taken}
use Rattle.ncl_sim.specs.TimedRun.{TraceData}
use Rattle.ncl_lines.specs.Line.{line}
use Rattle.ncl_report.specs.TraceText.{end_line, marks}

-- the line of a word that was offered, and of what was delivered for it
abbrev pub pair_line : List Bool × Taken → List ℕ
pair_line (word, taken) = line (word_text word ++ codes " " ++ marks taken.pair.rail0 taken.pair.rail1)

-- a line for each word that was offered and has its delivery
abbrev pub word_lines : List (List Bool) → List Taken → List ℕ
word_lines offered delivered = flat_map pair_line (zip offered delivered)

-- the line that tells how large the accepted adder of so many bits is
abbrev pub size_line : ℕ → PipelineData → List ℕ
size_line bits p =
    line (codes "demo " ++ decimal bits ++ codes " banks=" ++ decimal (length p.stages + 1) ++ codes " stages=" ++ decimal (length p.stages)
    ++ codes " cells=" ++ decimal (length p.netlist.cells) ++ codes " accepted")

-- the lines that tell a demo of so many bits: its size, its words, and how its run ends
abbrev pub demo_lines : ℕ → PipelineData → TraceData → List (List Bool) → List ℕ
demo_lines bits p t offered = size_line bits p ++ word_lines offered t.delivered ++ end_line p t (length offered)
