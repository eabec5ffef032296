use Rattle.ncl_vcd.proofs.Terms.{flat_map, line, take, variable_lines, ◌++◌, ◌≡◌}
use Rattle.ncl_vcd.proofs.writing.push_variables.Given as goal

-- the nets so far
abbrev pub invariant-loop-net : goal.invariant-loop-net
invariant-loop-net l = l.text.items ≡ l.fn.text.items ++ flat_map line (variable_lines 0 (take l.net l.nets))
