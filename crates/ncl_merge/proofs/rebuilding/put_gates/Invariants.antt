use Rattle.ncl_merge.proofs.Terms.{DriveOnce, HaveGates, List, StageCell, take, ◌++◌}
use Rattle.ncl_merge.proofs.rebuilding.put_gates.Given as goal

-- the cells so far are at their nets
abbrev pub invariant-loop-cell : goal.invariant-loop-cell
invariant-loop-cell l = (before : List StageCell) → HaveGates l.initial.gates before → DriveOnce (before ++ l.cells) → HaveGates l.gates (before ++ take l.cell-index l.cells)
