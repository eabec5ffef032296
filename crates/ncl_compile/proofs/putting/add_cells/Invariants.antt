use Rattle.std.proofs.Common.{◌≡◌, ◌++◌}
use Rattle.ncl_compile.proofs.putting.add_cells.Given as goal

abbrev pub invariant-loop-cell : goal.invariant-loop-cell
invariant-loop-cell l = l.cells.items ≡ l.initial.cells.items ++ l.yielded
