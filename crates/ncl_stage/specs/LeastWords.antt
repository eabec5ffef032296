-- The faults of a stage in the order in which they are asked, and the least word that shows one.
use Rattle.std.specs.Prelude.{ℕ, Bool, List, [], ◌∷◌, length, Option, Some, None}
use Rattle.std.specs.List.{find, flat_map, range_with_len}
use Rattle.ncl_shape.specs.Stage.{StageData}
use Rattle.ncl_stage.specs.BitOrder.{bit_order, words_by}
use Rattle.ncl_faults.specs.declared.variant.Variant.{Variant}
use Rattle.ncl_faults.specs.declared.variant.Variant.TheVariants.{Base, Bit, Cell}
use Rattle.ncl_faults.specs.Faults.{StageFault, BothRails, NoRail, Incomplete, Orphan, shows}

-- the numbers below n
abbrev pub below : ℕ → List ℕ
below n = range_with_len 0 n

-- the faults that belong to a variant, in their order
abbrev pub faults_of : StageData → Variant → List StageFault
faults_of s Base = flat_map (λ output. BothRails output ∷ NoRail output ∷ []) (below (length s.outputs))
faults_of s (Bit bit) = Incomplete bit ∷ []
faults_of s (Cell cell) = Orphan cell ∷ []

-- the word that shows the fault, the least in an order of the bits, and the least in the bit order of the stage
abbrev pub least_word_by : List ℕ → StageData → StageFault → Option (List Bool)
least_word_by order s fault = find (λ word. shows s word fault) (words_by order)

abbrev pub least_word : StageData → StageFault → Option (List Bool)
least_word s fault = least_word_by (bit_order s) s fault

-- the first that is there
abbrev pub first_of : {X : Type 0} → List (Option X) → Option X
first_of [] = None
first_of (None ∷ others) = first_of others
first_of (Some x ∷ others) = Some x
