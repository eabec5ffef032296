use Rattle.ncl_graph.proofs.Reaching.{reaches_next}
use Rattle.ncl_graph.proofs.reach.Reach.expand.Goals as goal

pub loop-next-preserved : goal.loop-next-preserved
loop-next-preserved c = reaches_next _ _ _ _ _ _ _ _ c.loop-next-test.true c.loop-next.invariant c.in_ok-reach.ensures
