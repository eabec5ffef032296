use Rattle.ncl_merge.proofs.Choices.{NetId, [], get_or, map_push, map-last}
use Rattle.ncl_merge.proofs.rebuilding.pin_names.Goals as goal

pub loop-net-preserved : goal.loop-net-preserved
loop-net-preserved c =
    map_push (λ (x : NetId). get_or c.args.nets.now x.0 []) c.args.ins.now c.loop-net.net-index (record { 0 = 0 }) c.loop-net.names.items c.push.new.self.items c.in_ok-net_name.field-0 c.loop-net-test.true c.loop-net.invariant c.in_ok-net_name.ensures c.in_ok-push.ensures.items

pub returns : goal.returns
returns c =
    map-last (λ (x : NetId). get_or c.args.nets.now x.0 []) c.args.ins.now c.loop-net.net-index c.args.out c.loop-net.names.items c.push-2.new.self.items c.in_ok-net_name-2.field-0 c.loop-net-test.false c.loop-net.invariant c.in_ok-push-2.ensures.items c.in_ok-net_name-2.ensures
