use Rattle.ncl_shape.proofs.Terms.{AtCell, IsRegister, ℕ, ◌<◌}
use Rattle.ncl_shape.proofs.banks.has_register.Given as goal

abbrev pub invariant-loop-cell : goal.invariant-loop-cell
invariant-loop-cell l = (j : ℕ) → j < l.cell-index → AtCell (λ n c. IsRegister c → ⊥) l.netlist j
