use Rattle.ncl_sim.proofs.TouchedLaws.{arith, grows-along, pins-next, ◌+◌}
use Rattle.ncl_sim.proofs.touched.put_at_pins.Goals as goal

pub loop-pin-preserved : goal.loop-pin-preserved
loop-pin-preserved c = (
  λ count few. grows-along count _ _ _ (c.loop-pin.invariant.0 count few) (c.in_ok-put_number.ensures.grows count few),
  pins-next c.loop-pin.table c.put_number.new.table c.args.pins.now c.loop-pin.pin-index c.args.number _ (c.args.number + 1) c.loop-pin-test.true
      (c.in_ok-put_number.ensures.grows (c.args.number + 1) (omega arith)) c.in_ok-put_number.ensures.has c.loop-pin.invariant.1,
)
