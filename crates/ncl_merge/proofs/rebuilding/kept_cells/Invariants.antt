use Rattle.ncl_merge.proofs.Terms.{choice_by, kept, map, part_of, take, ◌≡◌}
use Rattle.ncl_merge.proofs.rebuilding.kept_cells.Given as goal

abbrev pub invariant-loop-cell : goal.invariant-loop-cell
invariant-loop-cell l = l.parts.items ≡ map (part_of l.netlist.nets) (kept (choice_by l.gates l.staged) (take l.cell-index l.netlist.cells))
