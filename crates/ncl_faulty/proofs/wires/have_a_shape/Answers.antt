use Rattle.ncl_faulty.proofs.WiresShape.{wires_netlist, wires_shape}
use Rattle.ncl_faulty.proofs.wires.have_a_shape.Goals as goal

pub returns-clause-netlist : goal.returns-clause-netlist
returns-clause-netlist c = wires_netlist

pub returns-clause-shape : goal.returns-clause-shape
returns-clause-shape c = wires_shape
