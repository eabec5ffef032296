use Rattle.ncl_match.proofs.Terms.{gate_cell, map, take, ◌++◌, ◌≡◌}
use Rattle.ncl_match.proofs.planning.add_gates.Given as goal

-- the cells so far
abbrev pub invariant-loop-cell : goal.invariant-loop-cell
invariant-loop-cell l = l.made.items ≡ l.initial.made.items ++ map gate_cell (take l.cell-index l.cells)
