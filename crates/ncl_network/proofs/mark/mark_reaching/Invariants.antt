use Rattle.ncl_network.specs.Prune.{IsMarked}
use Rattle.ncl_network.proofs.mark.mark_reaching.Given as goal

abbrev pub invariant-loop-place : goal.invariant-loop-place
invariant-loop-place l = IsMarked l.network l.kept l.place
