-- How the faults of a stage are asked of the chain that it ends: without the followers of a bit's rails, and without its gates.
use Rattle.std.specs.Prelude.{◌≡◌, ℕ, ◌+◌, ◌-◌, ◌*◌, ◌≤◌, ◌<◌, Bool, true, false, List, [], ◌∷◌, length, Option, None, Some, if◌then◌else◌}
use Rattle.ncl_shape.specs.Stage.{StageData}
use Rattle.ncl_space.specs.Space.{SpaceData, fits}
use Rattle.ncl_faults.specs.declared.variant.Variant.{Variant}
use Rattle.ncl_faults.specs.Faults.{StageFault, BothRails, NoRail, Incomplete, Orphan}
use Rattle.ncl_stage.specs.LeastWords.{least_word_by}
use Rattle.ncl_stage.specs.Tables.{tables_by}
use Rattle.ncl_reaching.specs.Reaching.{Inputs, Shown}
use Rattle.ncl_reaching.specs.declared.fault.Fault.{Fault}
use Rattle.ncl_reaching.specs.declared.fault.Fault.TheVariants as told
use Rattle.ncl_reaching.specs.declared.fault.Found.{Found}

-- a word stands before another as a binary number, or is it
abbrev pub is_first : List Bool → List Bool → Bool
is_first [] other = true
is_first (x ∷ word) [] = true
is_first (false ∷ word) (false ∷ other) = is_first word other
is_first (false ∷ word) (true ∷ other) = true
is_first (true ∷ word) (false ∷ other) = false
is_first (true ∷ word) (true ∷ other) = is_first word other

-- the lesser of two words, if there are any
abbrev pub lesser : Option (List Bool) → Option (List Bool) → Option (List Bool)
lesser None other = other
lesser (Some word) None = Some word
lesser (Some word) (Some other) = if is_first word other then Some word else Some other

-- the places in a chain of the gates of its last stage, and of the followers of the rails of a bit of it
abbrev pub gate_place : StageData → StageData → ℕ → ℕ
gate_place c s place = length c.cells - length s.cells + place

abbrev pub rail0_place : StageData → StageData → ℕ → ℕ
rail0_place c s bit = length c.cells - length s.cells - 2 * length s.inputs + 2 * bit

abbrev pub rail1_place : StageData → StageData → ℕ → ℕ
rail1_place c s bit = rail0_place c s bit + 1

-- the least input that shows a fault of the last stage of a chain: a bit isn't waited for where the follower of one of its rails
-- is an orphan
abbrev pub inputs_of_chain : List ℕ → StageData → StageData → Inputs
inputs_of_chain order c s (BothRails output) = least_word_by order c (BothRails output)
inputs_of_chain order c s (NoRail output) = least_word_by order c (NoRail output)
inputs_of_chain order c s (Incomplete bit) = lesser (least_word_by order c (Orphan (rail0_place c s bit))) (least_word_by order c (Orphan (rail1_place c s bit)))
inputs_of_chain order c s (Orphan place) = least_word_by order c (Orphan (gate_place c s place))

-- the chain ends with the followers of the stage's rails and its gates, and has its outputs
pub record EndsWith (c s : StageData) : Type 0 where
  pub cells : 2 * length s.inputs + length s.cells ≤ length c.cells
  pub outputs : c.outputs ≡ s.outputs

-- the fault that a program's fault is, and what is found
abbrev pub fault_of : Fault → StageFault
fault_of (told.BothRails output) = BothRails output
fault_of (told.NoRail output) = NoRail output
fault_of (told.Incomplete bit) = Incomplete bit
fault_of (told.Orphan place) = Orphan place

-- a fault of an output, a bit or a gate that the stage has
abbrev pub IsFaultOf : StageData → StageFault → Type 0
IsFaultOf s (BothRails output) = output < length s.outputs
IsFaultOf s (NoRail output) = output < length s.outputs
IsFaultOf s (Incomplete bit) = bit < length s.inputs
IsFaultOf s (Orphan place) = place < length s.cells

abbrev pub shown_of : Found → Shown
shown_of found = (fault_of found.fault, found.input)

-- the functions of a question pass what a space can hold
pub record IsPast (space : SpaceData) (order : List ℕ) (c : StageData) : Type 0 where
  pub variant : Variant
  pub past : fits space (tables_by order c variant) ≡ false
