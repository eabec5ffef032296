use Rattle.ncl_bank.proofs.Terms.{Gate, [], arith, cell_at, length, ◌++◌, ◌∙◌, ◌∷◌}
use Rattle.ncl_bank.proofs.Zipped.{tree_cells_few, tree_cells_more}
use Rattle.ncl_bank.proofs.cells.add_tree_cells.Goals as goal

pub add_cell-requires : goal.add_cell-requires
add_cell-requires c =
    omega (arith, tree_cells_few c.args.prefix.now c.args.cells.now.items c.loop-gate.cells.items c.args.nets.now c.args.gates.now c.loop-gate.gate-index c.loop-gate.invariant)

pub loop-gate-preserved : goal.loop-gate-preserved
loop-gate-preserved c =
    tree_cells_more c.args.prefix.now c.args.cells.now.items c.loop-gate.cells.items c.args.nets.now c.args.gates.now c.loop-gate.gate-index c.gate-item.result c.add_cell.new.cells.items c.loop-gate.invariant (omega arith) c.gate-item.is
    (c.in_ok-add_cell.ensures ∙ (λ i. c.loop-gate.cells.items ++ cell_at c.args.prefix.now (length c.loop-gate.cells.items) (record { kind = Gate c.gate-item.result.kind; pins = c.in_ok-pins.ensures i }) ∷ []))
