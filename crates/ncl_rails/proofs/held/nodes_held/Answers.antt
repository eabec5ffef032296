use Rattle.ncl_rails.proofs.Terms.{FromNode, IsHeld, below_more, waits_of}
use Rattle.ncl_rails.proofs.held.nodes_held.Goals as goal

pub loop-k-preserved : goal.loop-k-preserved
loop-k-preserved c = below_more (λ k. IsHeld c.args.network.now (waits_of c.args.waits.now) (FromNode k)) c.loop-k.k c.loop-k.invariant (c.is_held.ensures c.if-not-is_held.false)
