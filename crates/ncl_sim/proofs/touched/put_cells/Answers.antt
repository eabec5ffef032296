use Rattle.ncl_sim.proofs.TouchedLaws.{ap, arith, cells-next, get_or, grows-along, length, slice_get_within, ◌+◌, ◌<◌, ◌∙◌, ◌≡◌}
use Rattle.ncl_sim.proofs.touched.put_cells.Goals as goal

pub loop-k-preserved : goal.loop-k-preserved
loop-k-preserved c =
    let cells = ap length c.cells-cells.ensures.cells in
    let is : c.index-cells-k.result ≡ get_or c.args.netlist.now.cells c.loop-k.k c.index-cells-k.result = c.index-cells-k.is ∙ ap (λ cs. get_or cs c.loop-k.k c.index-cells-k.result) c.cells-cells.ensures.cells in (
      λ count few. grows-along count _ _ _ (c.loop-k.invariant.0 count few) (c.in_ok-put_at_pins.ensures.grows count (omega (arith, few, cells, c.loop-k-test.true))),
      cells-next c.loop-k.table c.put_at_pins.new.table c.args.netlist.now.cells c.loop-k.k c.index-cells-k.result c.as_slice.result.now (c.loop-k.k + 1) is c.as_slice.ensures.value
          (c.in_ok-put_at_pins.ensures.grows (c.loop-k.k + 1) (omega arith)) c.in_ok-put_at_pins.ensures.pins c.loop-k.invariant.1,
    )

pub returns-clause-cells : goal.returns-clause-cells
returns-clause-cells c = λ k cell at pin has.
    let within : k < length c.args.netlist.now.cells = slice_get_within c.args.netlist.now.cells k cell at in
    let cells = ap length c.cells-cells.ensures.cells in
    c.loop-k.invariant.1 k cell (omega (arith, within, cells, c.loop-k-test.false)) at pin has
