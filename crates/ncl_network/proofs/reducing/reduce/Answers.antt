use Rattle.std.proofs.Common.{sym, ◌∙◌, arith}
use Rattle.ncl_network.proofs.CoverOrder.{weight_small}
use Rattle.ncl_network.proofs.Pruned.{IsNetwork-left, weighs_less}
use Rattle.ncl_network.proofs.reducing.reduce.Goals as goal

pub returns-clause-network : goal.returns-clause-network
returns-clause-network c =
    IsNetwork-left c.in_ok-network.network.nodes c.in_ok-network-2.network c.in_ok-network-2.ensures.ordered c.in_ok-network-2.ensures.reach c.in_ok-network-2.ensures.nodes c.in_ok-network.ensures.nodes
    (omega (arith, c.in_ok-network.ensures.weight, weight_small c.args.model.now, c.requires.small))

pub returns-clause-weight : goal.returns-clause-weight
returns-clause-weight c =
    omega (arith, c.in_ok-network.ensures.weight, weighs_less c.in_ok-network.network.nodes c.in_ok-network-2.network.nodes c.in_ok-network-2.ensures.nodes)

pub returns-clause-same : goal.returns-clause-same
returns-clause-same c word answer gives =
    c.in_ok-network.ensures.same word answer gives ∙ sym (c.in_ok-network-2.ensures.same word)
