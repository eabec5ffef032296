use Rattle.ncl_shape.proofs.Terms.{IsShownPort, ℕ, ◌<◌}
use Rattle.ncl_shape.proofs.closing.are_ports_shown.Given as goal

abbrev pub invariant-loop-place : goal.invariant-loop-place
invariant-loop-place l = (j : ℕ) → j < l.place → IsShownPort l.origins.netlist l.root.0 l.last.0 j
