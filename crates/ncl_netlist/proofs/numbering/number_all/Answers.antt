use Rattle.ncl_netlist.proofs.Terms.{[], ap, arith, length, length-map, map}
use Rattle.ncl_netlist.proofs.NameLists.{length-insert_all}
use Rattle.ncl_netlist.proofs.numbering.number_all.Goals as goal

pub number_cells-requires-clause-room : goal.number_cells-requires-clause-room
number_cells-requires-clause-room c =
    let ports = c.args.ports.now in
    omega (arith, ap length c.in_ok-names.ensures, length-insert_all [] (map (λ port. port.name) ports), length-map ports (λ port. port.name), c.requires.room)
