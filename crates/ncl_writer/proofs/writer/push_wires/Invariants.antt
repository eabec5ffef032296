use Rattle.ncl_writer.proofs.Terms.{flat_map, take, wire_line, ◌++◌, ◌≡◌}
use Rattle.ncl_writer.proofs.writer.push_wires.Given as goal

abbrev pub invariant-loop-net : goal.invariant-loop-net
invariant-loop-net l = l.text.items ≡ l.initial.text.items ++ flat_map wire_line (take l.net-index l.nets)
