use Rattle.ncl_cell_rules.proofs.Terms.{Contains-from_slice_get, IsGraph, ap, arcs, arith, get_or, length, map, map_push, refl, subst, sym, take_all, ◌∙◌}
use Rattle.ncl_cell_rules.proofs.TableSteps.{cell_read}
use Rattle.ncl_cell_rules.proofs.PinNumbers.{pins_fit}
use Rattle.ncl_cell_rules.proofs.GraphOfGates.{IsGraph-gate_graph}
use Rattle.ncl_cell_rules.proofs.gate_graph.gate_graph.Goals as goal

pub arcs_of-requires : goal.arcs_of-requires
arcs_of-requires c =
    let n = c.args.netlist.now in
    let at = cell_read n _ _ _ c.cells-cell-items.ensures.cells c.loop-cell-test.true c.cell-item.is in
    pins_fit n c.requires.netlist c.cell-item.result (Contains-from_slice_get n.cells _ _ at) _ refl _ c.requires.sized

pub loop-cell-preserved : goal.loop-cell-preserved
loop-cell-preserved c =
    let cells = c.args.netlist.now.cells in
    let same = c.cells-cell-items.ensures.cells in
    map_push (arcs c.args.drivers.now) cells c.loop-cell.cell-index c.cell-item.result c.loop-cell.successors.items c.push.new.self.items c.in_ok-arcs_of.field-0
    (let many = ap length same in omega (arith, many, c.loop-cell-test.true)) c.loop-cell.invariant
    (c.in_ok-arcs_of.ensures ∙ ap (arcs c.args.drivers.now) (c.cell-item.is ∙ ap (λ cs. get_or cs c.loop-cell.cell-index c.cell-item.result) same))
    c.in_ok-push.ensures.items

pub new-requires : goal.new-requires
new-requires c =
    let n = c.args.netlist.now in
    let same = ap length c.cells-cell-items.ensures.cells in
    let whole = take_all c.loop-cell.cell-index n.cells (omega (arith, same, c.loop-cell-test.false)) in
    subst IsGraph (sym (c.from_vec.ensures ∙ c.loop-cell.invariant ∙ ap (map (arcs c.args.drivers.now)) whole))
    (IsGraph-gate_graph n c.args.drivers.now c.requires)
