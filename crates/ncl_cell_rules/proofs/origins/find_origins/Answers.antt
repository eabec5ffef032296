use Rattle.ncl_cell_rules.proofs.Terms.{AreOffCycles, ArePaired, ArePortsRead, subst, sym}
use Rattle.ncl_cell_rules.proofs.origins.find_origins.Goals as goal

pub check_cells-requires-clause-read : goal.check_cells-requires-clause-read
check_cells-requires-clause-read c = subst ArePortsRead (sym c.in_ok-origins.ensures) c.in_ok-check_ports.ensures.read

pub check_cells-requires-clause-off_cycles : goal.check_cells-requires-clause-off_cycles
check_cells-requires-clause-off_cycles c = subst AreOffCycles (sym c.in_ok-origins.ensures) c.in_ok-order.ensures.off_cycles

pub check_cells-requires-clause-paired : goal.check_cells-requires-clause-paired
check_cells-requires-clause-paired c = subst ArePaired (sym c.in_ok-origins.ensures) c.in_ok-check_pairs.ensures.paired
