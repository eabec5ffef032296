use Rattle.ncl_rails.proofs.Terms.{Input, IsHeld, below_more, waits_of}
use Rattle.ncl_rails.proofs.held.inputs_held.Goals as goal

pub loop-i-preserved : goal.loop-i-preserved
loop-i-preserved c = below_more (λ k. IsHeld c.args.network.now (waits_of c.args.waits.now) (Input k)) c.loop-i.i c.loop-i.invariant (c.is_held.ensures c.if-not-is_held.false)
