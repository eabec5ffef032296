use Rattle.ncl_merge.proofs.Terms.{IsOnTheWay, length}
use Rattle.ncl_merge.proofs.merging.merge.Given as goal

abbrev pub invariant-loop-merged : goal.invariant-loop-merged
invariant-loop-merged l = record {
  way : IsOnTheWay l.fn.netlist l.merged;
}

abbrev pub decreases-loop-merged : goal.decreases-loop-merged
decreases-loop-merged l = length l.merged.cells
