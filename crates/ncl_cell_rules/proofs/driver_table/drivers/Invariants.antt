use Rattle.ncl_cell_rules.specs.GateGraph.{AreDriversBelow}
use Rattle.ncl_cell_rules.proofs.driver_table.drivers.Given as goal

abbrev pub invariant-loop-place : goal.invariant-loop-place
invariant-loop-place l = AreDriversBelow l.netlist l.place l.drivers.items
