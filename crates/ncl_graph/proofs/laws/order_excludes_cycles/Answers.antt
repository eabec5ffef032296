use Rattle.ncl_graph.proofs.Orders as orders
use Rattle.ncl_graph.proofs.laws.order_excludes_cycles.Goals as goal

pub returns : goal.returns
returns c = orders.order_excludes_cycles
