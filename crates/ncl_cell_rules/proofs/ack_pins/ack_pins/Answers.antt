use Rattle.ncl_cell_rules.proofs.Terms.{ack_pins_of, ap, arith, get_or, length, pins_with, subst, sym, ◌+◌, ◌<◌, ◌^◌, ◌∙◌}
use Rattle.ncl_cell_rules.proofs.TableSteps.{cell_read}
use Rattle.ncl_cell_rules.proofs.PinNumbers.{read_pins_fit}
use Rattle.ncl_cell_rules.proofs.CellTables.{entries_begin, entries_same, entries_whole, entries_written}
use Rattle.ncl_cell_rules.proofs.PinCounts.{AreCountsOf, ack_pins-le, all_pins, few_counts, no_ack_pins, own_ack_pins}
use Rattle.ncl_cell_rules.proofs.ack_pins.ack_pins.Goals as goal
use Rattle.ncl_cell_rules.proofs.ack_pins.ack_pins.Goals.{in-Ack, in_default}

pub loop-cell-init : goal.loop-cell-init
loop-cell-init c = entries_begin c.args.netlist.now (all_pins own_ack_pins) _ _ (c.in_ok-counts.ensures.items_if_clones_equal (λ y e. e)) (ap length c.nets.ensures.nets)

pub count_pins-requires-clause-fit : goal.count_pins-requires-clause-fit
count_pins-requires-clause-fit c =
    read_pins_fit c.args.netlist.now c.cells-cell-items.ensures.netlist _ _ _ c.cells-cell-items.ensures.cells c.loop-cell-test.true c.cell-item.is
    _ c.as_slice.ensures.value _ (ap length c.deref_mut.ensures.value ∙ c.loop-cell.invariant.sized)

pub count_pins-requires-clause-room : goal.count_pins-requires-clause-room
count_pins-requires-clause-room c = λ net.
    let few = few_counts c.args.netlist.now own_ack_pins ack_pins-le c.cells-cell-items.ensures.netlist c.loop-cell.cell-index c.loop-cell.counts.items c.loop-cell.invariant net in
    subst (λ counts. get_or counts net 0 + 4 < 2 ^ 32) (sym c.deref_mut.ensures.value) (omega (arith, few))

pub loop-cell-preserved : goal.loop-cell-preserved
loop-cell-preserved c =
    let n = c.args.netlist.now in
    let cell = c.cell-item.result in
    let old = c.loop-cell.counts.items in
    let at = cell_read n _ _ _ c.cells-cell-items.ensures.cells c.loop-cell-test.true c.cell-item.is in
    elim c.match-cell.branch [
      | in-Ack w ↦
          subst (λ v. AreCountsOf n own_ack_pins (c.loop-cell.cell-index + 1) v.items) (sym w.counts-is)
          (entries_written n (all_pins own_ack_pins) _ cell old c.loop-cell.invariant at c.loop-cell.counts.len c.loop-cell.counts.ok.0 _ w.count_pins.new.counts w.deref_mut.ensures.value w.count_pins.auto.counts
          (λ net lt. w.count_pins.ensures net lt ∙ ap (λ pins. get_or w.deref_mut.result.now net 0 + pins_with net pins) w.as_slice.ensures.value
          ∙ ap (λ kind. get_or w.deref_mut.result.now net 0 + ack_pins_of kind net cell.ins.items) (sym w.in-Ack.is)))
      | in_default w ↦
          subst (λ v. AreCountsOf n own_ack_pins (c.loop-cell.cell-index + 1) v.items) (sym w.counts-is)
          (entries_same n (all_pins own_ack_pins) _ cell old c.loop-cell.invariant at (λ net count. let none = no_ack_pins cell.kind w.in_default.not-Ack net cell.ins.items in omega (arith, none)))
    ]

pub returns : goal.returns
returns c = entries_whole c.args.netlist.now (all_pins own_ack_pins) _ _ _ c.cells-cell-items.ensures.cells c.loop-cell-test.false c.loop-cell.invariant
