-- What observes a net that is high: an output, or a gate that falls with it. It is the observability of NULL Convention
-- Logic (Fant and Brandt 1996; Smith and Di 2009), asked gate by gate: no net is followed further than to what reads it.
use Rattle.std.specs.Prelude.{◌≡◌, ◌⊎◌, ℕ, Bool, true, false, not, ◌&&◌, List, Contains}
use Rattle.ncl_shape.specs.declared.stage.StageCell.{StageCell}
use Rattle.ncl_shape.specs.Nets.{Nets, with_net}
use Rattle.ncl_shape.specs.Stage.{StageData, rail_nets}
use Rattle.ncl_faults.specs.declared.variant.Variant.TheVariants.{Base}
use Rattle.ncl_faults.specs.Values.{holds, val}
use Rattle.ncl_faults.specs.Faults.{BothRails, NoRail, IsWordOf, shows}

-- a gate that is high falls with a net: its set function doesn't hold where that net alone is low
abbrev pub falls_with : Nets → ℕ → StageCell → Bool
falls_with v net c = v c.out.0 && not (holds (with_net v net false) c)

-- some gate of the stage does
abbrev pub SomeFalls : StageData → Nets → ℕ → Type 0
SomeFalls s v net = (c : StageCell) × Contains s.cells c × (falls_with v net c ≡ true)

-- the net is a rail of an output, or some gate falls with it
abbrev pub IsObserved : StageData → Nets → ℕ → Type 0
IsObserved s v net = Contains (rail_nets s.outputs) net ⊎ SomeFalls s v net

-- under Base each net that is high is observed
abbrev pub AreObserved : StageData → Type 0
AreObserved s = (word : List Bool) → IsWordOf s word → (net : ℕ) → val s word Base net ≡ true → IsObserved s (val s word Base) net

-- under Base each output has one high rail
abbrev pub HasValidRails : StageData → Type 0
HasValidRails s = (word : List Bool) → IsWordOf s word → (output : ℕ) → (shows s word (BothRails output) ≡ false) × (shows s word (NoRail output) ≡ false)
