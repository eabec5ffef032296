use Rattle.ncl_cell_rules.proofs.Terms.{AreSourcesOf, CellAt, Contains-from_slice_get, IsSourceOf, NetId, Port, [], ap, arith, cut_at, drop, get_or, length, replicate, set, source_at, subst, sym, take, take_all, take_more, ℕ, ◌+◌, ◌<◌, ◌∙◌, ◌≡◌}
use Rattle.ncl_cell_rules.proofs.TableSteps.{cell_of_order}
use Rattle.ncl_cell_rules.proofs.PinNumbers.{output_within}
use Rattle.ncl_cell_rules.proofs.OrderSteps.{sources_begin, sources_more, pins_known, sources_whole, new_at}
use Rattle.ncl_cell_rules.proofs.net_sources.net_sources.Goals as goal
use Rattle.ncl_cell_rules.proofs.net_sources.net_sources.Goals.{After-as_slice}

pub loop-place-init : goal.loop-place-init
loop-place-init c =
    let all : c.in_ok-sources.sources.items ≡ replicate (length c.nets.result.now) Port = c.in_ok-sources.ensures.items_if_clones_equal (λ y same. same) in
    subst (AreSourcesOf c.args.netlist.now []) (ap (λ nets. replicate (length nets) Port) (sym c.nets.ensures.nets) ∙ sym all) (sources_begin c.args.netlist.now c.requires.drivers.netlist)

pub source_of_cell-requires-clause-sized : goal.source_of_cell-requires-clause-sized
source_of_cell-requires-clause-sized c = ap length c.as_slice.ensures.value ∙ c.loop-place.invariant.sized

-- the cell that is read stands at its place of the order
cell_at : (c : After-as_slice) → CellAt c.args.netlist.now (get_or c.args.order.now c.loop-place.place-index 0) c.index-cells-place.result
cell_at c = cell_of_order c.args.netlist.now c.args.order.now c.requires.order c.loop-place.place-index c.loop-place-test.true c.cells.result.now c.index-cells-place.result c.cells.ensures.cells c.index-cells-place.is

pub source_of_cell-requires-clause-known : goal.source_of_cell-requires-clause-known
source_of_cell-requires-clause-known c = λ is_gate.
    let n = c.args.netlist.now in
    let order = c.args.order.now in
    let k = c.loop-place.place-index in
    let cell = c.index-cells-place.result in
    let at = cell_at (goal.at.source_of_cell-requires-clause-known c).After-as_slice in
    subst (λ sources. (i : ℕ) (d : NetId) → i < length cell.ins.items → IsSourceOf n (get_or cell.ins.items i d).0 (source_at sources (get_or cell.ins.items i d).0)) (sym c.as_slice.ensures.value)
    (pins_known n c.requires.drivers.netlist order (take k order) (drop (k + 1) order) (get_or order k 0) c.loop-place.sources.items c.requires.order (cut_at order k 0 c.loop-place-test.true) c.loop-place.invariant cell at is_gate)

pub index_mut-requires : goal.index_mut-requires
index_mut-requires c =
    let sized = c.loop-place.invariant.sized in
    let at = cell_at (goal.at.index_mut-requires c).After-as_slice in
    let inside = output_within c.args.netlist.now c.requires.drivers.netlist c.index-cells-place.result (Contains-from_slice_get c.args.netlist.now.cells _ _ at) in
    omega (arith, sized, inside)

pub loop-place-preserved : goal.loop-place-preserved
loop-place-preserved c =
    let n = c.args.netlist.now in
    let order = c.args.order.now in
    let k = c.loop-place.place-index in
    let cell = c.index-cells-place.result in
    let at = cell_at (goal.at.loop-place-preserved c).After-as_slice in
    subst (λ places. AreSourcesOf n places (set c.loop-place.sources.items cell.out.0 c.source_of_cell.result)) (sym (take_more order k 0 c.loop-place-test.true))
    (sources_more n c.requires.drivers.netlist (take k order) c.loop-place.sources.items (get_or order k 0) cell c.source_of_cell.result c.loop-place.invariant at (new_at order k c.requires.order.once c.loop-place-test.true) c.source_of_cell.ensures)

pub returns : goal.returns
returns c =
    sources_whole c.args.netlist.now c.requires.drivers.netlist c.args.order.now c.loop-place.sources.items c.requires.order
    (subst (λ places. AreSourcesOf c.args.netlist.now places c.loop-place.sources.items) (take_all c.loop-place.place-index c.args.order.now c.loop-place-test.false) c.loop-place.invariant)
