-- What making the tables of the nets that count for an output comes to.
use Rattle.std.specs.Prelude.{ℕ, List, Result, IfOk, OnOk, IsErrOf}
use Rattle.ncl_blif.specs.declared.model.Model.{Model}
use Rattle.ncl_space.specs.Space.{SpaceData}
use Rattle.ncl_space.specs.declared.space.SpaceFault.{SpaceFault}
use Rattle.ncl_space.specs.declared.space.SpaceFault.TheVariants.{Full}
use Rattle.ncl_match.specs.declared.pair.Pair.{Pair}
use Rattle.ncl_match.specs.Circuit.{Circuit}
use Rattle.ncl_match.specs.Gathering.{Gathers, Overflows}
use Rattle.ncl_match.specs.Listed.{IsListed}
use Rattle.ncl_match.specs.Sides.{HasRail, HoldsNets}

-- it gives the function of rail 1 with all tables held, or is refused where they don't fit, whatever models are compared
pub record MakesRail (old new : SpaceData) (c : Circuit) (output : ℕ) (result : Result Pair SpaceFault) : Type 0 where
  pub rail : IfOk result (λ p. HasRail new p c output)
  pub nets : OnOk result (HoldsNets new c output)
  pub gathers : (models : List Model) → OnOk result (Gathers (IsListed c models output) old new)
  pub full : (models : List Model) → IsErrOf result Full → Overflows (IsListed c models output) old
