use Rattle.ncl_cell_rules.proofs.Terms.{ap, false, gate_reads_test, get_or, is_gate, length, list_any, or-false, reads_test, subst, sym, ◌&&◌, ◌+◌, ◌||◌, ◌∙◌}
use Rattle.ncl_cell_rules.proofs.TableSteps.{cell_read}
use Rattle.ncl_cell_rules.proofs.PinNumbers.{read_pins_fit}
use Rattle.ncl_cell_rules.proofs.CellTests.{no_gate}
use Rattle.ncl_cell_rules.proofs.CellTables.{HasEntries, entries_begin, entries_same, entries_whole, entries_written}
use Rattle.ncl_cell_rules.proofs.ReadTables.{any_passes, has_pin}
use Rattle.ncl_cell_rules.proofs.reading.gate_reads.Goals as goal
use Rattle.ncl_cell_rules.proofs.reading.gate_reads.Goals.{in-Gate, in_default}

pub loop-cell-init : goal.loop-cell-init
loop-cell-init c = entries_begin c.args.netlist.now (any_passes gate_reads_test) _ _ (c.in_ok-flags.ensures.items_if_clones_equal (λ y e. e)) (ap length c.nets.ensures.nets)

pub mark-requires : goal.mark-requires
mark-requires c =
    read_pins_fit c.args.netlist.now c.cells-cell-items.ensures.netlist _ _ _ c.cells-cell-items.ensures.cells c.loop-cell-test.true c.cell-item.is
    _ c.as_slice.ensures.value _ (ap length c.deref_mut.ensures.value ∙ c.loop-cell.invariant.sized)

pub loop-cell-preserved : goal.loop-cell-preserved
loop-cell-preserved c =
    let n = c.args.netlist.now in
    let cell = c.cell-item.result in
    let old = c.loop-cell.flags.items in
    let at = cell_read n _ _ _ c.cells-cell-items.ensures.cells c.loop-cell-test.true c.cell-item.is in
    elim c.match-cell.branch [
      | in-Gate w ↦
          subst (λ v. HasEntries n (any_passes gate_reads_test) (c.loop-cell.cell-index + 1) v.items) (sym w.flags-is)
          (entries_written n (any_passes gate_reads_test) _ cell old c.loop-cell.invariant at c.loop-cell.flags.len c.loop-cell.flags.ok.0 _ w.mark.new.flags w.deref_mut.ensures.value w.mark.auto.flags
          (λ net lt. w.mark.ensures net lt ∙ ap (λ pins. get_or w.deref_mut.result.now net false || list_any (has_pin net) pins) w.as_slice.ensures.value
          ∙ ap (λ kind. get_or w.deref_mut.result.now net false || (is_gate kind && reads_test net cell)) (sym w.in-Gate.is)))
      | in_default w ↦
          subst (λ v. HasEntries n (any_passes gate_reads_test) (c.loop-cell.cell-index + 1) v.items) (sym w.flags-is)
          (entries_same n (any_passes gate_reads_test) _ cell old c.loop-cell.invariant at (λ net flag. ap (λ b. flag || (b && reads_test net cell)) (no_gate cell.kind w.in_default.not-Gate) ∙ or-false flag))
    ]

pub returns : goal.returns
returns c = entries_whole c.args.netlist.now (any_passes gate_reads_test) _ _ _ c.cells-cell-items.ensures.cells c.loop-cell-test.false c.loop-cell.invariant
