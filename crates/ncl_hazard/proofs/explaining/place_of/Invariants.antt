use Rattle.ncl_hazard.proofs.Terms.{StageCell, false, get_or, nat_eq, ℕ, ◌<◌, ◌≡◌}
use Rattle.ncl_hazard.proofs.explaining.place_of.Given as goal

-- none of the gates so far is the cell
abbrev pub invariant-loop-place : goal.invariant-loop-place
invariant-loop-place l = (k : ℕ) (d : StageCell) → k < l.place → nat_eq (get_or l.gate-items k d).cell.0 l.cell.0 ≡ false
