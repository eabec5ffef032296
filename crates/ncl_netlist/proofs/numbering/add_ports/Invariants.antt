use Rattle.ncl_netlist.proofs.Terms.{[], insert_all, map, same_name, take, ◌≡◌}
use Rattle.ncl_netlist.proofs.numbering.add_ports.Given as goal

abbrev pub invariant-loop-port : goal.invariant-loop-port
invariant-loop-port l =
    l.names.keys ≡ insert_all same_name [] (map (λ port. port.name) (take l.port-index l.ports))
