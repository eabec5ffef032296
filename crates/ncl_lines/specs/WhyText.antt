-- The lines that tell why a cell is an orphan.
use Rattle.std.specs.Prelude.{◌≡◌, ℕ, ◌+◌, ◌-◌, All, Bool, List, [], ◌∷◌, ◌++◌, codes, decimal}
use Rattle.ncl_base.specs.Words.{text_of as word_text}
use Rattle.ncl_netlist.specs.declared.ids.CellId.{CellId}
use Rattle.ncl_netlist.specs.Netlist.{NetlistData}
use Rattle.ncl_shape.specs.declared.item.Item.{Item}
use Rattle.ncl_shape.specs.declared.item.Item.TheVariants.{Cell as Fire, Raise, Lower, Take, Ready}
use Rattle.ncl_shape.specs.Pipeline.{PipelineData}
use Rattle.ncl_verdict.specs.declared.verdict.Verdict.{Verdict}
use Rattle.ncl_verdict.specs.declared.verdict.Verdict.TheVariants.{Orphan}
use Rattle.ncl_machine.specs.Held.{InRange}
use Rattle.ncl_hazard.specs.declared.explaining.Explained.{Explained}
use Rattle.ncl_hazard.specs.declared.explaining.Explained.TheVariants.{Shown, NoWord}
use Rattle.ncl_hazard.specs.Trying.{HasNoDataBank}
use Rattle.ncl_hazard.specs.Explained.{IsExplained, IsPastLimit}
use Rattle.ncl_lines.specs.Line.{line, cell_name}

-- what happens in a step: a cell fires, the source raises or lowers a bit, which counts from 1, or the sink takes a word or
-- gets ready for the next
abbrev pub item_words : NetlistData → Item → List ℕ
item_words n (Fire cell) = codes "cell " ++ cell_name n cell.0
item_words n (Raise bit) = codes "raise " ++ decimal (bit + 1)
item_words n (Lower bit) = codes "lower " ++ decimal (bit + 1)
item_words n Take = codes "take"
item_words n Ready = codes "ready"

-- the line of a step of this number
abbrev pub step_line : NetlistData → ℕ → Item → List ℕ
step_line n number item = line (codes "step " ++ decimal number ++ codes ": " ++ item_words n item)

-- a line for each step, which count on from a number
abbrev pub step_lines : NetlistData → ℕ → List Item → List ℕ
step_lines n number [] = []
step_lines n number (item ∷ items) = step_line n number item ++ step_lines n (number + 1) items

-- the lines of an input and a run over it, in whose last step the cell loses its excitation
abbrev pub shown_lines : NetlistData → CellId → List Bool → List Item → List ℕ
shown_lines n cell input run = line (codes "why: word " ++ word_text input) ++ step_lines n 1 run ++ line (codes "lost: cell " ++ cell_name n cell.0)

-- the lines of an explanation
abbrev pub explained_lines : NetlistData → CellId → Explained → List ℕ
explained_lines n cell NoWord = line (codes "why: no input brings a word that shows it")
explained_lines n cell (Shown input run) = shown_lines n cell input run

-- its items are items of the pipeline
abbrev pub NamesItemsOf : PipelineData → Explained → Type 0
NamesItemsOf p NoWord = Unit {0}
NamesItemsOf p (Shown input run) = All (InRange p) run

-- the lines that tell why a cell of the stage after so many others is an orphan, with at most so many nodes
pub data IsOrphanText (limit : ℕ) (p : PipelineData) (before : ℕ) (cell : CellId) : List ℕ → Type 0 where
  data_banks : (HasNoDataBank p → ⊥) → IsOrphanText limit p before cell (line (codes "why: not told for data banks"))
  past_limit : HasNoDataBank p → IsPastLimit p before cell limit → IsOrphanText limit p before cell (line (codes "why: more than " ++ decimal limit ++ codes " nodes"))
  explained : HasNoDataBank p → (told : Explained) → IsExplained p before cell limit told → IsOrphanText limit p before cell (explained_lines p.netlist cell told)

-- the lines that tell why a verdict refuses a pipeline: those on the orphan that it names, and none where it names none.
-- Stages count from 1
abbrev pub IsWhyText : ℕ → PipelineData → Verdict → List ℕ → Type 0
IsWhyText limit p (Orphan number cell word) text = IsOrphanText limit p (number - 1) cell text
IsWhyText limit p verdict text = text ≡ []
