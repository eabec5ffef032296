use Rattle.ncl_rails.proofs.Terms.{map, pair_names, part_of_gate, take, ◌≡◌}
use Rattle.ncl_rails.proofs.naming.parts_of_gates.Given as goal

abbrev pub invariant-loop-gate : goal.invariant-loop-gate
invariant-loop-gate l = l.parts.items ≡ map (part_of_gate (pair_names l.ins) l.prefix) (take l.gate-index l.gates)
