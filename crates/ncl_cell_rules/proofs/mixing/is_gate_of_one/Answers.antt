use Rattle.ncl_cell_rules.proofs.PinNumbers.{output_within}
use Rattle.ncl_cell_rules.proofs.mixing.is_gate_of_one.Goals as goal

pub source-requires : goal.source-requires
source-requires c = output_within c.args.origins.now.netlist c.facts.ensures.drivers.netlist c.args.cell.now c.requires.in_netlist
