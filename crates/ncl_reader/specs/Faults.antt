-- The fault of a text for a fault of its parts.
use Rattle.ncl_netlist.specs.declared.build_fault.BuildFault.{BuildFault}
use Rattle.ncl_netlist.specs.declared.build_fault.BuildFault.TheVariants.{Memory as build_memory}
use Rattle.ncl_reader.specs.declared.net_fault.NetFault.{NetFault}
use Rattle.ncl_reader.specs.declared.net_fault.NetFault.TheVariants.{Build, Memory}

-- want of memory stays one
abbrev pub net_fault_of : BuildFault → NetFault
net_fault_of build_memory = Memory
net_fault_of fault = Build fault
