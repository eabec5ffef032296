use Rattle.ncl_netlist.proofs.Terms.{cell_of, length, ◌*◌, ◌+◌, ◌≤◌}
use Rattle.ncl_netlist.proofs.Steps.{Numbered}
use Rattle.ncl_netlist.proofs.numbering.number_cells.Given as goal

abbrev pub invariant-loop-cell : goal.invariant-loop-cell
invariant-loop-cell l =
    Numbered cell_of (λ cell. cell.pins) l.initial.names.keys l.yielded l.names.keys l.numbered.items
    × (length l.names.keys ≤ length l.initial.names.keys + 5 * length l.yielded)
