use Rattle.ncl_netlist.proofs.Terms.{drives, map, take, ◌≡◌}
use Rattle.ncl_netlist.proofs.drivers.count_ports.Given as goal

abbrev pub invariant-loop-port : goal.invariant-loop-port
invariant-loop-port l = l.counts.items ≡ map drives (take l.port-index l.ports)
