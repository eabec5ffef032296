use Rattle.ncl_cell_rules.proofs.Terms.{ap, false, get_or, length, list_any, reads_test, ◌||◌, ◌∙◌}
use Rattle.ncl_cell_rules.proofs.TableSteps.{cell_read}
use Rattle.ncl_cell_rules.proofs.PinNumbers.{read_pins_fit}
use Rattle.ncl_cell_rules.proofs.CellTables.{entries_begin, entries_whole, entries_written}
use Rattle.ncl_cell_rules.proofs.ReadTables.{any_passes, has_pin}
use Rattle.ncl_cell_rules.proofs.reading.reads.Goals as goal

pub loop-cell-init : goal.loop-cell-init
loop-cell-init c = entries_begin c.args.netlist.now (any_passes reads_test) _ _ (c.in_ok-flags.ensures.items_if_clones_equal (λ y e. e)) (ap length c.nets.ensures.nets)

pub mark-requires : goal.mark-requires
mark-requires c =
    read_pins_fit c.args.netlist.now c.cells-cell-items.ensures.netlist _ _ _ c.cells-cell-items.ensures.cells c.loop-cell-test.true c.cell-item.is
    _ c.as_slice.ensures.value _ (ap length c.deref_mut.ensures.value ∙ c.loop-cell.invariant.sized)

pub loop-cell-preserved : goal.loop-cell-preserved
loop-cell-preserved c =
    let n = c.args.netlist.now in
    entries_written n (any_passes reads_test) _ _ _ c.loop-cell.invariant (cell_read n _ _ _ c.cells-cell-items.ensures.cells c.loop-cell-test.true c.cell-item.is)
    c.loop-cell.flags.len c.loop-cell.flags.ok.0 _ c.mark.new.flags c.deref_mut.ensures.value c.mark.auto.flags
    (λ net lt. c.mark.ensures net lt ∙ ap (λ pins. get_or c.deref_mut.result.now net false || list_any (has_pin net) pins) c.as_slice.ensures.value)

pub returns : goal.returns
returns c = entries_whole c.args.netlist.now (any_passes reads_test) _ _ _ c.cells-cell-items.ensures.cells c.loop-cell-test.false c.loop-cell.invariant
