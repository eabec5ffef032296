use Rattle.ncl_cell_rules.proofs.PinCounts.{AreCountsOf, own_ack_pins}
use Rattle.ncl_cell_rules.proofs.ack_pins.ack_pins.Given as goal

abbrev pub invariant-loop-cell : goal.invariant-loop-cell
invariant-loop-cell l = AreCountsOf l.netlist own_ack_pins l.cell-index l.counts.items
