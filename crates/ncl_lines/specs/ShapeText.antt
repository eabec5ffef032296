-- The line that tells why a netlist has no shape.
use Rattle.std.specs.Prelude.{ℕ, ◌<◌, List, ◌++◌, length, codes, decimal}
use Rattle.ncl_netlist.specs.Netlist.{NetlistData}
use Rattle.ncl_cell_rules.specs.declared.fault.CellFault.TheVariants.{UnusedPort, Cycle, Unpaired, Mixed, Loose, Memory as CellMemory}
use Rattle.ncl_shape.specs.declared.fault.ShapeFault.{ShapeFault}
use Rattle.ncl_shape.specs.declared.fault.ShapeFault.TheVariants.{CellRule, NoChain, TooWide, TooLong, Memory}
use Rattle.ncl_lines.specs.Line.{line, out_of_memory, cell_name, net_name}

-- the line that tells which rule of shape a netlist breaks, and where first
abbrev pub shape_line : NetlistData → ShapeFault → List ℕ
shape_line n (CellRule (UnusedPort net)) = line (codes "shape: unused port " ++ net_name n net.0)
shape_line n (CellRule (Cycle cell)) = line (codes "shape: cycle at cell " ++ cell_name n cell.0)
shape_line n (CellRule (Unpaired cell)) = line (codes "shape: unpaired at cell " ++ cell_name n cell.0)
shape_line n (CellRule (Mixed cell)) = line (codes "shape: mixed at cell " ++ cell_name n cell.0)
shape_line n (CellRule (Loose cell)) = line (codes "shape: loose at cell " ++ cell_name n cell.0)
shape_line n (CellRule CellMemory) = out_of_memory
shape_line n (NoChain rule) = line (codes "shape: no chain, rule " ++ decimal rule)
shape_line n (TooWide bank) = line (codes "shape: too wide, bank " ++ decimal bank)
shape_line n TooLong = line (codes "shape: too long")
shape_line n Memory = out_of_memory

-- a net or a cell that the fault names is one of the netlist's
abbrev pub NamesPlaceOf : NetlistData → ShapeFault → Type 0
NamesPlaceOf n (CellRule (UnusedPort net)) = net.0 < length n.nets
NamesPlaceOf n (CellRule (Cycle cell)) = cell.0 < length n.cells
NamesPlaceOf n (CellRule (Unpaired cell)) = cell.0 < length n.cells
NamesPlaceOf n (CellRule (Mixed cell)) = cell.0 < length n.cells
NamesPlaceOf n (CellRule (Loose cell)) = cell.0 < length n.cells
NamesPlaceOf n fault = Unit {0}
