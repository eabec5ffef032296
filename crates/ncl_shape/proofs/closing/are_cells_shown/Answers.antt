use Rattle.ncl_shape.proofs.Terms.{AtCell, Cell, IsShownCell, NetlistData, ap, arith, below_more, cell_read, length, refl, rule_at, slice_get-from_Contains, slice_get_within}
use Rattle.ncl_shape.proofs.closing.are_cells_shown.Goals as goal

pub loop-cell-preserved : goal.loop-cell-preserved
loop-cell-preserved c =
    let n = c.args.origins.now.netlist in
    let k = c.loop-cell.cell-index in
    let at = cell_read n c.cells-cell-items.result.now k c.cell-item.result (rw c.netlist.ensures.netlist at c.cells-cell-items.ensures.cells) c.loop-cell-test.true c.cell-item.is in
    below_more (AtCell (λ (m : NetlistData) (x : Cell). IsShownCell m c.args.last.0 x) n) k c.loop-cell.invariant
    (rule_at n (λ (m : NetlistData) (x : Cell). IsShownCell m c.args.last.0 x) k c.cell-item.result at (c.is_shown_cell.ensures.0 c.if-not-is_shown_cell.false))

pub returns : goal.returns
returns c = (
  (λ holds cell is_cell.
      let (k, at) = slice_get-from_Contains c.args.origins.now.netlist.cells cell is_cell in
      let within = slice_get_within c.args.origins.now.netlist.cells k cell at in
      let as_long = ap length (rw c.netlist.ensures.netlist at c.cells-cell-items.ensures.cells) in
      let done = c.loop-cell-test.false in
      c.loop-cell.invariant k (omega (arith, within, as_long, done)) cell at),
  λ all. refl,
)
