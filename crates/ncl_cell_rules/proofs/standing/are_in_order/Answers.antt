use Rattle.std.proofs.lemmas.Bool.{OnTrue_at}
use Rattle.ncl_cell_rules.proofs.InOrder.{one_later, all_later}
use Rattle.ncl_cell_rules.proofs.standing.are_in_order.Goals as goal

pub loop-place-preserved : goal.loop-place-preserved
loop-place-preserved c = one_later c.args.netlist.now c.args.drivers.now _ c.cells-cell-items.ensures.cells _ c.loop-place.invariant _ c.loop-place-test.true c.cell-item.is (OnTrue_at c.if-not-stands_later.false c.stands_later.ensures)

pub returns : goal.returns
returns c = all_later c.args.netlist.now c.args.drivers.now _ c.cells-cell-items.ensures.cells _ c.loop-place.invariant c.loop-place-test.false
