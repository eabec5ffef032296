use Rattle.std.proofs.Common.{◌≡◌, ◌-◌, length}
use Rattle.ncl_tree.proofs.Queue.{IsGrowing}
use Rattle.ncl_tree.proofs.tree.add_tree.Given as goal

abbrev pub invariant-loop-at : goal.invariant-loop-at
invariant-loop-at l = record {
  growing : IsGrowing l.family l.leaves l.initial.gates.cells l.gates.cells l.queue.items l.at l.taken;
  first : l.gates.first ≡ l.initial.gates.first;
}

abbrev pub decreases-loop-at : goal.decreases-loop-at
decreases-loop-at l = length l.queue.items - l.at
