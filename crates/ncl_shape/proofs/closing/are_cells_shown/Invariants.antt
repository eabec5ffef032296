use Rattle.ncl_shape.proofs.Terms.{AtCell, IsShownCell, ℕ, ◌<◌}
use Rattle.ncl_shape.proofs.closing.are_cells_shown.Given as goal

abbrev pub invariant-loop-cell : goal.invariant-loop-cell
invariant-loop-cell l = (j : ℕ) → j < l.cell-index → AtCell (λ n c. IsShownCell n l.last.0 c) l.origins.netlist j
