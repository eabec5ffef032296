use Rattle.std.proofs.Common.{length, ap}
use Rattle.ncl_hazard.proofs.ScheduleLaws.{numbers-more, all-is}
use Rattle.ncl_hazard.proofs.schedule.all_items.Goals as goal

pub loop-i-preserved : goal.loop-i-preserved
loop-i-preserved c = numbers-more c.loop-i.items.items c.push.new.self.items c.args.order.now c.loop-i.i-index 0 c.loop-i-test.true c.loop-i.invariant c.in_ok-push.ensures.items

pub returns : goal.returns
returns c =
    all-is c.args.pipeline.now c.args.order.now c.loop-i.i-index (length c.inputs.result.now) (length c.inputs-2.result.now) c.loop-i.items.items c.push_raises.new.items.items c.push_lowers.new.items.items _ _ c.loop-i-test.false c.loop-i.invariant
    (ap length c.inputs.ensures.inputs) (ap length c.inputs-2.ensures.inputs) c.in_ok-push_raises.ensures c.in_ok-push_lowers.ensures c.in_ok-push-2.ensures.items c.in_ok-push-3.ensures.items
