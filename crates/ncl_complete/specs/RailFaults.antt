-- The first fault of an output: both its rails are high, or none is.
use Rattle.std.specs.Prelude.{ℕ, List, Bool, Option, Some, None, map, option_and_then}
use Rattle.ncl_shape.specs.Stage.{StageData}
use Rattle.ncl_faults.specs.declared.variant.Variant.TheVariants.{Base}
use Rattle.ncl_faults.specs.Faults.{StageFault, BothRails, NoRail, Incomplete, Orphan}
use Rattle.ncl_stage.specs.LeastWords.{faults_of, first_of, least_word_by}
use Rattle.ncl_complete.specs.declared.rail_fault.RailFault.{RailFault}
use Rattle.ncl_complete.specs.declared.rail_fault.RailFault.TheVariants as rail

-- a fault of an output with a word that shows it; the other faults are of no output
abbrev pub rail_fault : StageFault → List Bool → Option RailFault
rail_fault (BothRails output) word = Some (rail.BothRails output word)
rail_fault (NoRail output) word = Some (rail.NoRail output word)
rail_fault (Incomplete bit) word = None
rail_fault (Orphan cell) word = None

-- a fault of an output with the word that shows it, the least in an order of the bits, if some word does
abbrev pub found_fault_by : List ℕ → StageData → StageFault → Option RailFault
found_fault_by order s fault = option_and_then (rail_fault fault) (least_word_by order s fault)

-- the first in the order of the outputs, and for each output first that both rails are high
abbrev pub first_rail_fault_by : List ℕ → StageData → Option RailFault
first_rail_fault_by order s = first_of (map (found_fault_by order s) (faults_of s Base))
