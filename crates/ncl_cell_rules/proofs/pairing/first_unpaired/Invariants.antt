use Rattle.ncl_cell_rules.proofs.Terms.{AtCell, IsPaired, ℕ, ◌<◌}
use Rattle.ncl_cell_rules.proofs.pairing.first_unpaired.Given as goal

abbrev pub invariant-loop-place : goal.invariant-loop-place
invariant-loop-place l = (j : ℕ) → j < l.place → AtCell IsPaired l.netlist j
