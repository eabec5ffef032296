use Rattle.std.proofs.Common.{length, ap, arith}
use Rattle.ncl_cell_rules.proofs.TableSteps.{drivers_more, drivers_whole, cell_read}
use Rattle.ncl_cell_rules.proofs.driver_table.drivers.Goals as goal

pub loop-place-preserved : goal.loop-place-preserved
loop-place-preserved c =
    drivers_more _ c.cells-cell-items.ensures.netlist _ _ _ c.loop-place.invariant
    (cell_read c.args.netlist.now _ _ _ c.cells-cell-items.ensures.cells c.loop-place-test.true c.cell-item.is)

pub returns : goal.returns
returns c =
    let all = ap length c.cells-cell-items.ensures.cells in
    drivers_whole _ c.cells-cell-items.ensures.netlist _ _ (omega (arith, all, c.loop-place-test.false)) c.loop-place.invariant
