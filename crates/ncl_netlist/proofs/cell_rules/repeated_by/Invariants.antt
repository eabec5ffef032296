use Rattle.std.proofs.Common.{take, map}
use Rattle.ncl_netlist.proofs.Steps.{Seen}
use Rattle.ncl_netlist.proofs.cell_rules.repeated_by.Given as goal

abbrev pub invariant-loop-cell : goal.invariant-loop-cell
invariant-loop-cell l = Seen (map (λ key. key.now) l.seen.keys) (map (λ cell. cell.name) (take l.cell-index l.cells))
