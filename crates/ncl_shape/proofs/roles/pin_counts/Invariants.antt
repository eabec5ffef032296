use Rattle.ncl_shape.proofs.RegisterPins.{ArePinCounts}
use Rattle.ncl_shape.proofs.roles.pin_counts.Given as goal

abbrev pub invariant-loop-cell : goal.invariant-loop-cell
invariant-loop-cell l = ArePinCounts l.netlist l.pin l.cell-index l.counts.items
