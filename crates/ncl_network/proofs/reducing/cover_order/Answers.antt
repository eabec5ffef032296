use Rattle.ncl_network.proofs.Terms.{IsOnCycle, MatchOption-at_none, ap, arith, dependency_graph, length, subst, ◌∙◌}
use Rattle.ncl_network.proofs.CoverOrder.{covers_few, no_cycle}
use Rattle.ncl_network.proofs.reducing.cover_order.Goals as goal

pub dependencies-requires : goal.dependencies-requires
dependencies-requires c = omega (arith, ap length c.items.ensures, covers_few c.args.model.now, c.requires.small)

pub unreachable-requires : goal.unreachable-requires
unreachable-requires c =
    let (i, cycle) = MatchOption-at_none _ _ c.in-None.is c.in_ok-order.ensures in
    no_cycle c.args.model.now c.requires i (subst (λ g. IsOnCycle g i) (c.in_ok-graph.ensures ∙ ap dependency_graph c.items.ensures) cycle)
