use Rattle.ncl_writer.proofs.Terms.{flat_map, port_line, take, ◌++◌, ◌≡◌}
use Rattle.ncl_writer.proofs.writer.push_directions.Given as goal

abbrev pub invariant-loop-port : goal.invariant-loop-port
invariant-loop-port l = l.text.items ≡ l.initial.text.items ++ flat_map port_line (take l.port-index l.ports)
