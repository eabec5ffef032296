-- What a variant changes: the nets of a stage that have another table than under Base.
use Rattle.std.specs.Prelude.{◌≡◌, ◌↔◌, ℕ, ◌+◌, ◌*◌, ◌<◌, ◌≤◌, Bool, true, false, List, [], Contains, length, slice_index_or}
use Rattle.ncl_shape.specs.Stage.{StageData, nets_of}
use Rattle.ncl_faults.specs.declared.variant.Variant.{Variant}
use Rattle.ncl_faults.specs.declared.variant.Variant.TheVariants.{Base}
use Rattle.ncl_stage.specs.StageTables.{net_table_by}
use Rattle.ncl_faults.specs.Values.{kept_low}
use Rattle.ncl_stage.specs.Wiring.{WiringData}

-- the net at a place in the order of the stage's nets
abbrev pub net_at : StageData → ℕ → ℕ
net_at s place = slice_index_or (nets_of s.inputs s.cells) place 0

-- the net has the table that it has under Base, in an order of the bits
abbrev pub IsUnchanged : List ℕ → StageData → Variant → ℕ → Type 0
IsUnchanged order s variant net = net_table_by order s variant net ≡ net_table_by order s Base net

-- the net is unchanged, where the variant doesn't keep it low
abbrev pub IsUnreached : List ℕ → StageData → Variant → ℕ → Type 0
IsUnreached order s variant net = kept_low s variant net ≡ false → IsUnchanged order s variant net

-- of the nets at the first places, one for each mark, exactly those are marked that are changed
abbrev pub MarksChanges : List ℕ → StageData → Variant → List Bool → Type 0
MarksChanges order s variant marks = (place : ℕ) → place < length marks → (slice_index_or marks place true ≡ false) ↔ IsUnchanged order s variant (net_at s place)

-- of the places from one on, those wait that the variant keeps low, and those of the cells that read a net before it that has
-- changed
pub record AreWaiting (w : WiringData) (s : StageData) (variant : Variant) (from : ℕ) (marks : List Bool) : Type 0 where
  pub many : length marks ≡ length w.nets
  pub low : (place : ℕ) → from ≤ place → place < length w.nets → slice_index_or marks place true ≡ false → kept_low s variant (net_at s place) ≡ false
  pub read : (cell place : ℕ) → from ≤ 2 * length s.inputs + cell → 2 * length s.inputs + cell < length w.nets → slice_index_or marks (2 * length s.inputs + cell) true ≡ false → Contains (slice_index_or w.pins cell []) place → place < from → IsUnchanged w.order s variant (net_at s place)
