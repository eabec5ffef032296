-- The line that tells a verdict on a netlist.
use Rattle.std.specs.Prelude.{ℕ, ◌+◌, ◌<◌, Bool, List, ◌++◌, length, codes, decimal}
use Rattle.ncl_base.specs.Words.{text_of as word_text}
use Rattle.ncl_netlist.specs.Netlist.{NetlistData}
use Rattle.ncl_verdict.specs.declared.verdict.Verdict.{Verdict}
use Rattle.ncl_verdict.specs.declared.verdict.Verdict.TheVariants.{Accepted, BothRails, NoRail, Incomplete, Orphan, Limit}
use Rattle.ncl_lines.specs.Line.{line, cell_name}

-- the line on a stage with a fault: the fault, the output, bit or cell where it is, and the word that shows it
abbrev pub refusal : ℕ → List ℕ → List ℕ → List Bool → List ℕ
refusal stage fault place word =
    line (codes "refused stage " ++ decimal stage ++ codes ": " ++ fault ++ place ++ codes ", word " ++ word_text word)

-- the line that tells a verdict on a netlist with so many stages, each judged with at most so many nodes.
-- There is one bank more than there are stages
abbrev pub verdict_line : NetlistData → ℕ → ℕ → Verdict → List ℕ
verdict_line n stages limit Accepted =
    line (codes "accepted banks=" ++ decimal (stages + 1) ++ codes " stages=" ++ decimal stages
    ++ codes " cells=" ++ decimal (length n.cells))
verdict_line n stages limit (BothRails stage output word) = refusal stage (codes "both rails, output ") (decimal output) word
verdict_line n stages limit (NoRail stage output word) = refusal stage (codes "no rail, output ") (decimal output) word
verdict_line n stages limit (Incomplete stage bit word) = refusal stage (codes "incomplete, bit ") (decimal bit) word
verdict_line n stages limit (Orphan stage cell word) = refusal stage (codes "orphan, cell ") (cell_name n cell.0) word
verdict_line n stages limit (Limit stage) =
    line (codes "limit stage " ++ decimal stage ++ codes ": more than " ++ decimal limit ++ codes " nodes")

-- a cell that the verdict names is one of the netlist's
abbrev pub NamesCellOf : NetlistData → Verdict → Type 0
NamesCellOf n (Orphan stage cell word) = cell.0 < length n.cells
NamesCellOf n verdict = Unit {0}
