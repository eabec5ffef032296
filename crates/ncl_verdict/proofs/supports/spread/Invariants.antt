use Rattle.ncl_verdict.proofs.Terms.{AreReaches, length, ◌≡◌, ◌≤◌}
use Rattle.ncl_verdict.proofs.supports.spread.Given as goal

-- what the cells from one on reach is told to those that they read
abbrev pub invariant-loop-left : goal.invariant-loop-left
invariant-loop-left l = record {
  many : length l.reaches ≡ length l.masks;
  within : l.left ≤ l.cells;
  are : AreReaches l.left l.bits l.wiring l.masks l.reaches;
}

abbrev pub decreases-loop-left : goal.decreases-loop-left
decreases-loop-left l = l.left
