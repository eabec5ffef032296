use Rattle.ncl_cell_rules.proofs.Terms.{AtCell, IsTied, ℕ, ◌<◌}
use Rattle.ncl_cell_rules.proofs.tying.first_loose.Given as goal

abbrev pub invariant-loop-place : goal.invariant-loop-place
invariant-loop-place l = (j : ℕ) → j < l.place → AtCell IsTied l.origins.netlist j
