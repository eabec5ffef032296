use Rattle.ncl_writer.proofs.Terms.{Port, map, spelled_name, take}
use Rattle.ncl_writer.proofs.Opened.{Opens}
use Rattle.ncl_writer.proofs.row_text.push_ports.Given as goal

abbrev pub invariant-loop-port : goal.invariant-loop-port
invariant-loop-port l = Opens l.text.items l.initial.text.items l.front (map (λ (port : Port). spelled_name port.name) (take l.port-index l.ports))
