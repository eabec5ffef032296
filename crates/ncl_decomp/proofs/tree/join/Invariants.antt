use Rattle.std.proofs.Common.{length, ◌-◌}
use Rattle.ncl_decomp.proofs.Queue.{IsGrowing}
use Rattle.ncl_decomp.proofs.tree.join.Given as goal

abbrev pub invariant-loop-at : goal.invariant-loop-at
invariant-loop-at l = IsGrowing l.joint l.fn.leaves.items l.initial.nodes.items l.nodes.items l.queue.items l.at

abbrev pub decreases-loop-at : goal.decreases-loop-at
decreases-loop-at l = length l.queue.items - l.at
