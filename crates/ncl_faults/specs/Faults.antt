-- The faults of a stage at a word: input-completeness and observability of Smith and Di 2009, stated by
-- keeping nets low.
use Rattle.std.specs.Prelude.{◌≡◌, ℕ, Bool, false, not, ◌||◌, ◌&&◌, List, length, Option, Some, None, slice_get}
use Rattle.std.specs.List.{list_all}
use Rattle.ncl_shape.specs.declared.rails.Rails.{Rails}
use Rattle.ncl_shape.specs.declared.stage.StageCell.{StageCell}
use Rattle.ncl_shape.specs.Nets.{Nets}
use Rattle.ncl_shape.specs.Stage.{StageData}
use Rattle.ncl_faults.specs.declared.variant.Variant.TheVariants.{Base, Bit, Cell}
use Rattle.ncl_faults.specs.Values.{val}

-- a bit is DATA or illegal: some rail of it is high
abbrev pub has_data : Nets → Rails → Bool
has_data v r = v r.zero.0 || v r.one.0

-- a bit is illegal: both rails are high
abbrev pub is_illegal : Nets → Rails → Bool
is_illegal v r = v r.zero.0 && v r.one.0

-- every output has a high rail
abbrev pub all_data : StageData → Nets → Bool
all_data s v = list_all (has_data v) s.outputs

-- a fault of a stage. Outputs, bits and cells count from 0
pub data StageFault : Type 0 where
  BothRails : ℕ → StageFault
  NoRail : ℕ → StageFault
  Incomplete : ℕ → StageFault
  Orphan : ℕ → StageFault

-- the test holds of what stands at a place; where nothing stands it doesn't
abbrev pub holds_at : {X : Type 0} → (X → Bool) → Option X → Bool
holds_at test None = false
holds_at test (Some x) = test x

-- the word shows the fault:
-- both rails of an output are high; no rail of an output is high;
-- every output has a high rail though a bit of the input is NULL;
-- a cell is high, and every output has a high rail without it: nothing observes the cell, it is an orphan
abbrev pub shows : StageData → List Bool → StageFault → Bool
shows s word (BothRails output) = holds_at (is_illegal (val s word Base)) (slice_get s.outputs output)
shows s word (NoRail output) = holds_at (λ r. not (has_data (val s word Base) r)) (slice_get s.outputs output)
shows s word (Incomplete bit) = holds_at (λ (r : Rails). all_data s (val s word (Bit bit))) (slice_get s.inputs bit)
shows s word (Orphan cell) = holds_at (λ (c : StageCell). val s word Base c.out.0 && all_data s (val s word (Cell cell))) (slice_get s.cells cell)

-- a word of the stage's inputs
abbrev pub IsWordOf : StageData → List Bool → Type 0
IsWordOf s word = length word ≡ length s.inputs

-- a stage is sound where no word of its inputs shows any fault
abbrev pub IsSound : StageData → Type 0
IsSound s = (fault : StageFault) (word : List Bool) → IsWordOf s word → shows s word fault ≡ false
