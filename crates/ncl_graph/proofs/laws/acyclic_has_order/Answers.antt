use Rattle.ncl_graph.proofs.Orders as orders
use Rattle.ncl_graph.proofs.laws.acyclic_has_order.Goals as goal

pub returns : goal.returns
returns c = orders.acyclic_has_order
