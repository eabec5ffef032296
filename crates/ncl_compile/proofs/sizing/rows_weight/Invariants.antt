use Rattle.ncl_compile.proofs.Terms.{take, weight_of_rows, ◌≡◌}
use Rattle.ncl_compile.proofs.sizing.rows_weight.Given as goal

abbrev pub invariant-loop-row : goal.invariant-loop-row
invariant-loop-row l = l.weight ≡ weight_of_rows (take l.row-index l.rows)
