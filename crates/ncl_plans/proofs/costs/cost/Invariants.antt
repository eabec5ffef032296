use Rattle.ncl_plans.proofs.Terms.{cost_of_inputs, length, sum_by, take, ◌*◌, ◌≡◌, ◌≤◌}
use Rattle.ncl_plans.proofs.costs.cost.Given as goal

abbrev pub invariant-loop-node : goal.invariant-loop-node
invariant-loop-node l =
    (l.sum ≡ sum_by (λ node. cost_of_inputs (length node.ins)) (take l.node-index l.node-items)) × (l.sum ≤ 22 * l.node-index)
