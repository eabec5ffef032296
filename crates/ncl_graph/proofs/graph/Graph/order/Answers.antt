use Rattle.std.proofs.Common.{arith}
use Rattle.ncl_graph.proofs.Searching.{finishes}
use Rattle.ncl_graph.proofs.graph.Graph.order.Goals as goal

pub returns : goal.returns
returns c = finishes _ _ _ _ _ c.loop-place.invariant.search c.loop-place.invariant.idle (λ i lt. c.loop-place.invariant.met i (omega (arith, lt, c.len-places.ensures.len, c.loop-place-test.false)))
