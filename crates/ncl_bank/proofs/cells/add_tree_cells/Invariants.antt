use Rattle.ncl_bank.proofs.Terms.{map, take, tree_cell_of}
use Rattle.ncl_bank.proofs.Named.{IsAdded}
use Rattle.ncl_bank.proofs.cells.add_tree_cells.Given as goal

-- the cells of the gates so far
abbrev pub invariant-loop-gate : goal.invariant-loop-gate
invariant-loop-gate l = IsAdded l.prefix l.initial.cells.items (map (tree_cell_of l.nets) (take l.gate-index l.gates)) l.cells.items
