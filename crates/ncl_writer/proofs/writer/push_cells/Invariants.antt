use Rattle.ncl_writer.proofs.Terms.{cell_line, flat_map, take, ◌++◌, ◌≡◌}
use Rattle.ncl_writer.proofs.writer.push_cells.Given as goal

abbrev pub invariant-loop-cell : goal.invariant-loop-cell
invariant-loop-cell l = l.text.items ≡ l.initial.text.items ++ flat_map (cell_line l.nets) (take l.cell-index l.cells)
