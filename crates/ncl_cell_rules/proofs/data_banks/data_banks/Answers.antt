use Rattle.ncl_cell_rules.proofs.Terms.{B, Contains-from_slice_get, ap, arith, data_is_register, data_test, false, get_or, has_net, length, length-set, or-false, set, slice_get, subst, sym, true, ◌&&◌, ◌+◌, ◌||◌, ◌∙◌}
use Rattle.ncl_cell_rules.proofs.TableSteps.{cell_read, read_is_cell}
use Rattle.ncl_cell_rules.proofs.PinNumbers.{no_net, register_inside, register_on}
use Rattle.ncl_cell_rules.proofs.DataBanks.{data_on}
use Rattle.ncl_cell_rules.proofs.CellTables.{HasEntries, entries_begin, entries_more, entries_same, entries_whole}
use Rattle.ncl_cell_rules.proofs.ReadTables.{any_passes, marked_one}
use Rattle.ncl_cell_rules.proofs.data_banks.data_banks.Goals as goal
use Rattle.ncl_cell_rules.proofs.data_banks.data_banks.Goals.{then-is_data_register, else-is_data_register}

pub loop-cell-init : goal.loop-cell-init
loop-cell-init c = entries_begin c.args.netlist.now (any_passes data_test) _ _ (c.in_ok-flags.ensures.items_if_clones_equal (λ y e. e)) (ap length c.nets.ensures.nets)

pub index_mut-requires : goal.index_mut-requires
index_mut-requires c =
    let n = c.args.netlist.now in
    let cell = c.cell-item.result in
    let in_c = read_is_cell n _ _ _ c.cells-cell-items.ensures.cells c.loop-cell-test.true c.cell-item.is in
    let register = data_is_register cell.kind (sym c.is_data_register.ensures ∙ c.if-is_data_register.true) in
    let inside = register_inside n c.cells-cell-items.ensures.netlist cell in_c 1 c.deref.result.now c.deref.ensures.0 register (omega arith) in
    let sized = c.loop-cell.invariant.sized in
    omega (arith, inside, sized)

pub loop-cell-preserved : goal.loop-cell-preserved
loop-cell-preserved c =
    let n = c.args.netlist.now in
    let cell = c.cell-item.result in
    let old = c.loop-cell.flags.items in
    let at = cell_read n _ _ _ c.cells-cell-items.ensures.cells c.loop-cell-test.true c.cell-item.is in
    elim c.if-is_data_register.branch [
      | then-is_data_register w ↦
          let request = (get_or w.deref.result.now 1 no_net).0 in
          let data_is = sym c.is_data_register.ensures ∙ w.if-is_data_register.true in
          let on = register_on n c.cells-cell-items.ensures.netlist cell (Contains-from_slice_get n.cells _ cell at) 1 w.deref.result.now w.deref.ensures.0 (data_is_register cell.kind data_is) (omega arith) in
          subst (λ v. HasEntries n (any_passes data_test) (c.loop-cell.cell-index + 1) v.items) (sym w.flags-is)
          (entries_more n (any_passes data_test) _ cell old c.loop-cell.invariant at (set old request true) (length-set old request true)
          (λ net lt. marked_one old request net lt ∙ ap (λ b. get_or old net false || b) (sym (data_on cell request net data_is on))))
      | else-is_data_register w ↦
          subst (λ v. HasEntries n (any_passes data_test) (c.loop-cell.cell-index + 1) v.items) (sym w.flags-is)
          (entries_same n (any_passes data_test) _ cell old c.loop-cell.invariant at
          (λ net flag. ap (λ b. flag || (b && has_net net (slice_get cell.ins.items B))) (sym c.is_data_register.ensures ∙ w.if-is_data_register.false) ∙ or-false flag))
    ]

pub returns : goal.returns
returns c = entries_whole c.args.netlist.now (any_passes data_test) _ _ _ c.cells-cell-items.ensures.cells c.loop-cell-test.false c.loop-cell.invariant
