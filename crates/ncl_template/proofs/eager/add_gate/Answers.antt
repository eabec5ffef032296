use Rattle.ncl_template.proofs.Terms.{arith, pin_net}
use Rattle.ncl_template.proofs.PinValues.{values-more, values-room}
use Rattle.ncl_template.proofs.eager.add_gate.Goals as goal

pub push-requires : goal.push-requires
push-requires c =
    (omega arith, values-room (pin_net c.args.ins.now c.args.inner.now) c.args.gate.now.pins.items _ c.loop-pin.pin-index _ c.as_slice-pin-items.ensures.value c.loop-pin-test.true c.requires.few c.loop-pin.invariant)

pub loop-pin-preserved : goal.loop-pin-preserved
loop-pin-preserved c =
    values-more (pin_net c.args.ins.now c.args.inner.now) c.args.gate.now.pins.items _ c.loop-pin.pin-index _ _ _ _ c.as_slice-pin-items.ensures.value c.loop-pin-test.true c.loop-pin.invariant c.pin_net.ensures c.push.ensures.items
