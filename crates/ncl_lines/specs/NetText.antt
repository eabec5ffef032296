-- The line that tells why a text is no netlist.
use Rattle.std.specs.Prelude.{ℕ, List, ◌++◌, codes, decimal}
use Rattle.ncl_netlist.specs.declared.build_fault.BuildFault.{BuildFault}
use Rattle.ncl_netlist.specs.declared.build_fault.BuildFault.TheVariants as build
use Rattle.ncl_reader.specs.declared.net_fault.NetFault.{NetFault}
use Rattle.ncl_reader.specs.declared.net_fault.NetFault.TheVariants.{Syntax, UnknownCell, BadPins, Unsupported, Build, Memory}
use Rattle.ncl_lines.specs.Line.{line, out_of_memory}

-- the line that tells why parts are no netlist, with the name of a cell or of a net
abbrev pub build_line : BuildFault → List ℕ
build_line build.TooMany = line (codes "netlist: too many cells")
build_line (build.SameName name) = line (codes "netlist: two cells " ++ name)
build_line (build.TwoDrivers name) = line (codes "netlist: two drivers of " ++ name)
build_line (build.NoDriver name) = line (codes "netlist: no driver of " ++ name)
build_line build.Memory = out_of_memory

-- the line that tells why a text is no netlist, with the place of the first byte that breaks it
abbrev pub net_line : NetFault → List ℕ
net_line (Syntax place) = line (codes "netlist: syntax at " ++ decimal place)
net_line (UnknownCell place) = line (codes "netlist: unknown cell at " ++ decimal place)
net_line (BadPins place) = line (codes "netlist: bad pins at " ++ decimal place)
net_line (Unsupported place) = line (codes "netlist: unsupported at " ++ decimal place)
net_line (Build fault) = build_line fault
net_line Memory = out_of_memory
