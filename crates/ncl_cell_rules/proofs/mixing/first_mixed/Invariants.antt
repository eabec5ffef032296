use Rattle.ncl_cell_rules.proofs.Terms.{AtCell, IsUnmixed, ℕ, ◌<◌}
use Rattle.ncl_cell_rules.proofs.mixing.first_mixed.Given as goal

abbrev pub invariant-loop-place : goal.invariant-loop-place
invariant-loop-place l = (j : ℕ) → j < l.place → AtCell IsUnmixed l.origins.netlist j
