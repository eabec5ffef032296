use Rattle.ncl_shape.proofs.Terms.{AllZip, AreOnSide, get_or, refl, slice_get-get_or, subst, sym, take, ◌+◌}
use Rattle.ncl_shape.proofs.ZippedLists.{AllZip-more}
use Rattle.ncl_shape.proofs.BitCells.{no_bit, zero_within, one_within, zero_pin, one_pin, on_side}
use Rattle.ncl_shape.proofs.rail_lists.rails_on.Goals as goal

pub bounds-cells-bit : goal.bounds-cells-bit
bounds-cells-bit c = zero_within c.args.netlist.now c.requires.0 c.args.bits.now c.requires.1 c.loop-bit.bit-index _ (slice_get-get_or c.args.bits.now c.loop-bit.bit-index no_bit c.loop-bit-test.true) c.cells-cells.result.now c.cells-cells.ensures.cells

pub bounds-cells-bit-in-loop-bit : goal.bounds-cells-bit-in-loop-bit
bounds-cells-bit-in-loop-bit c = one_within c.args.netlist.now c.requires.0 c.args.bits.now c.requires.1 c.loop-bit.bit-index _ (slice_get-get_or c.args.bits.now c.loop-bit.bit-index no_bit c.loop-bit-test.true) c.cells-cells.result.now c.cells-cells.ensures.cells

pub net_on-requires : goal.net_on-requires
net_on-requires c = zero_pin c.args.netlist.now c.requires.0 c.args.bits.now c.requires.1 c.loop-bit.bit-index _ (slice_get-get_or c.args.bits.now c.loop-bit.bit-index no_bit c.loop-bit-test.true) c.cells-cells.result.now c.cells-cells.ensures.cells _ _ c.index-cells-bit.is c.index-cells-bit-in-loop-bit.is c.cells-cells.ensures.netlist _ refl

pub net_on-requires-in-loop-bit : goal.net_on-requires-in-loop-bit
net_on-requires-in-loop-bit c = one_pin c.args.netlist.now c.requires.0 c.args.bits.now c.requires.1 c.loop-bit.bit-index _ (slice_get-get_or c.args.bits.now c.loop-bit.bit-index no_bit c.loop-bit-test.true) c.cells-cells.result.now c.cells-cells.ensures.cells _ _ c.index-cells-bit.is c.index-cells-bit-in-loop-bit.is c.cells-cells.ensures.netlist _ refl

pub loop-bit-preserved : goal.loop-bit-preserved
loop-bit-preserved c =
    let side = AreOnSide c.args.netlist.now c.args.side in
    let bits = c.args.bits.now in
    let k = c.loop-bit.bit-index in
    let rails = on_side c.args.netlist.now c.requires.0 c.args.bits.now c.requires.1 c.loop-bit.bit-index _ (slice_get-get_or c.args.bits.now c.loop-bit.bit-index no_bit c.loop-bit-test.true) c.cells-cells.result.now c.cells-cells.ensures.cells _ _ c.index-cells-bit.is c.index-cells-bit-in-loop-bit.is c.cells-cells.ensures.netlist c.args.side in
    subst (AllZip side (take (k + 1) bits)) (sym c.in_ok-push.ensures.items)
    (AllZip-more side bits c.loop-bit.rails.items k no_bit _ c.loop-bit-test.true c.loop-bit.invariant
    (subst (side (get_or bits k no_bit)) (λ i. record { zero = sym c.net_on.ensures i; one = sym c.net_on-in-loop-bit.ensures i }) rails))
