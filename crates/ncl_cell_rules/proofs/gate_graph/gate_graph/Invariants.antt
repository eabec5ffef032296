use Rattle.ncl_cell_rules.proofs.Terms.{arcs, map, take, ◌≡◌}
use Rattle.ncl_cell_rules.proofs.gate_graph.gate_graph.Given as goal

abbrev pub invariant-loop-cell : goal.invariant-loop-cell
invariant-loop-cell l = l.successors.items ≡ map (arcs l.drivers) (take l.cell-index l.netlist.cells)
