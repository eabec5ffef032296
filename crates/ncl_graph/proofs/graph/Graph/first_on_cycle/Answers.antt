use Rattle.ncl_graph.proofs.Orders.{order_excludes_cycles}
use Rattle.ncl_graph.proofs.graph.Graph.first_on_cycle.Goals as goal

pub returns-in-Some : goal.returns-in-Some
returns-in-Some c = order_excludes_cycles _ _ (rw c.in-Some.is at c.in_ok-order.ensures)
