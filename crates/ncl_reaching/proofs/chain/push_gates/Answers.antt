use Rattle.ncl_reaching.proofs.PushLaws.{gates-next}
use Rattle.ncl_reaching.proofs.chain.push_gates.Goals as goal

pub loop-gate-preserved : goal.loop-gate-preserved
loop-gate-preserved c =
    gates-next c.args.cells.now.items c.loop-gate.cells.items c.push.new.self.items c.args.gates.now c.loop-gate.gate-index c.gate-item.result c.in_ok-by_net.field-0 c.loop-gate-test.true c.loop-gate.invariant c.gate-item.is
    c.in_ok-by_net.ensures.cell c.in_ok-by_net.ensures.kind c.in_ok-by_net.ensures.ins c.in_ok-by_net.ensures.out c.in_ok-push.ensures.items
