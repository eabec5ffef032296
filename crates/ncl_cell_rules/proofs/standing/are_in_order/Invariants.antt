use Rattle.ncl_cell_rules.proofs.Terms.{StandsLater, ℕ, ◌<◌}
use Rattle.ncl_cell_rules.proofs.standing.are_in_order.Given as goal

-- the cells so far stand so
abbrev pub invariant-loop-place : goal.invariant-loop-place
invariant-loop-place l = (j : ℕ) → j < l.place → StandsLater l.netlist l.drivers j
