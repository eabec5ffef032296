use Rattle.ncl_shape.proofs.Terms.{AtCell, Cell, Contains-from_slice_get, IsRegister, NetlistData, ap, arith, below_more, cell_read, false≢true, length, refl, rule_at, slice_get-from_Contains, slice_get_within, sym, ◌∙◌}
use Rattle.ncl_shape.proofs.banks.has_register.Goals as goal

pub loop-cell-preserved : goal.loop-cell-preserved
loop-cell-preserved c =
    let n = c.args.netlist.now in
    let k = c.loop-cell.cell-index in
    let at = cell_read n c.cells-cell-items.result.now k c.cell-item.result c.cells-cell-items.ensures.cells c.loop-cell-test.true c.cell-item.is in
    below_more (AtCell (λ (m : NetlistData) (x : Cell). IsRegister x → ⊥) n) k c.loop-cell.invariant
    (rule_at n (λ (m : NetlistData) (x : Cell). IsRegister x → ⊥) k c.cell-item.result at (λ is. false≢true (sym c.if-is_register.false ∙ c.is_register.ensures ∙ is)))

pub returns-then-is_register : goal.returns-then-is_register
returns-then-is_register c =
    let n = c.args.netlist.now in
    let k = c.loop-cell.cell-index in
    let at = cell_read n c.cells-cell-items.result.now k c.cell-item.result c.cells-cell-items.ensures.cells c.loop-cell-test.true c.cell-item.is in
    (λ _. (c.cell-item.result, Contains-from_slice_get n.cells k c.cell-item.result at, sym c.is_register.ensures ∙ c.if-is_register.true), λ _. refl)

pub returns : goal.returns
returns c = (
  λ is. absurd (false≢true is),
  λ (cell, is_cell, is).
      let (k, at) = slice_get-from_Contains c.args.netlist.now.cells cell is_cell in
      let within = slice_get_within c.args.netlist.now.cells k cell at in
      let as_long = ap length c.cells-cell-items.ensures.cells in
      absurd (c.loop-cell.invariant k (omega (arith, within, as_long, c.loop-cell-test.false)) cell at is),
)
