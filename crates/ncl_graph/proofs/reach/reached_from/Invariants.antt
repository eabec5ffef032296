use Rattle.ncl_graph.specs.Reach.{IsWalk, turns}
use Rattle.ncl_graph.proofs.reach.reached_from.Given as goal

abbrev pub invariant-loop-place : goal.invariant-loop-place
invariant-loop-place l = IsWalk l.graph l.start l.walk.reached.items l.walk.waiting.items

abbrev pub decreases-loop-place : goal.decreases-loop-place
decreases-loop-place l = turns l.walk.reached.items l.walk.waiting.items
