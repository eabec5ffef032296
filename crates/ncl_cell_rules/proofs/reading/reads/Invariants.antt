use Rattle.ncl_cell_rules.specs.CellTests.{reads_test}
use Rattle.ncl_cell_rules.proofs.CellTables.{HasEntries}
use Rattle.ncl_cell_rules.proofs.ReadTables.{any_passes}
use Rattle.ncl_cell_rules.proofs.reading.reads.Given as goal

abbrev pub invariant-loop-cell : goal.invariant-loop-cell
invariant-loop-cell l = HasEntries l.netlist (any_passes reads_test) l.cell-index l.flags.items
