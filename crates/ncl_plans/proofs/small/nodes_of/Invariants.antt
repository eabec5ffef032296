use Rattle.ncl_plans.proofs.Terms.{map, small_node, take, ◌≡◌}
use Rattle.ncl_plans.proofs.small.nodes_of.Given as goal

abbrev pub invariant-loop-small : goal.invariant-loop-small
invariant-loop-small l = l.nodes.items ≡ map small_node (take l.small-index l.smalls)
