use Rattle.ncl_rails.proofs.Terms.{Input, IsHeld, waits_of, ℕ, ◌<◌}
use Rattle.ncl_rails.proofs.held.inputs_held.Given as goal

abbrev pub invariant-loop-i : goal.invariant-loop-i
invariant-loop-i l = (j : ℕ) → j < l.i → IsHeld l.network (waits_of l.waits) (Input j)
