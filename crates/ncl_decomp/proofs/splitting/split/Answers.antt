use Rattle.ncl_decomp.proofs.Terms.{arith, weight_of_network}
use Rattle.ncl_decomp.proofs.Whole.{kinds_left, cost_left, IsSplit-left}
use Rattle.ncl_decomp.proofs.splitting.split.Goals as goal

pub returns-clause-network : goal.returns-clause-network
returns-clause-network c =
    IsSplit-left c.in_ok-network.network.nodes c.in_ok-network-2.network (weight_of_network c.args.network.now) c.in_ok-network-2.ensures.ordered c.in_ok-network-2.ensures.reach c.in_ok-network-2.ensures.nodes c.in_ok-network.ensures.nodes c.in_ok-network.ensures.cost c.requires.small

pub returns-clause-wide : goal.returns-clause-wide
returns-clause-wide c =
    kinds_left c.args.network.now.nodes c.in_ok-network.network.nodes c.in_ok-network-2.network.nodes c.in_ok-network-2.ensures.nodes c.in_ok-network.ensures.kinds

pub returns-clause-cost : goal.returns-clause-cost
returns-clause-cost c =
    omega (arith, cost_left c.in_ok-network.network.nodes c.in_ok-network-2.network.nodes c.in_ok-network-2.ensures.nodes, c.in_ok-network.ensures.cost)
