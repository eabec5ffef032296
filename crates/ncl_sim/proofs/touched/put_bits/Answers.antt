use Rattle.ncl_sim.proofs.Terms.{arith, below_more, grows-along, ◌+◌}
use Rattle.ncl_sim.proofs.touched.put_bits.Goals as goal

pub loop-bit-preserved : goal.loop-bit-preserved
loop-bit-preserved c = (
  λ count few. grows-along count _ _ _ (c.loop-bit.invariant.0 count few) (c.in_ok-put_number.ensures.grows count (omega arith)),
  below_more _ _ (λ j lt. (c.in_ok-put_number.ensures.grows (c.args.cells + c.loop-bit.bit + 1) (omega arith)).kept c.args.ko.0 (c.args.cells + j) (c.loop-bit.invariant.1 j lt)) c.in_ok-put_number.ensures.has,
)
