use Rattle.ncl_match.proofs.Terms.{register_cells, take, ◌++◌, ◌≡◌}
use Rattle.ncl_match.proofs.planning.add_registers.Given as goal

-- the cells of the bits so far
abbrev pub invariant-loop-bit : goal.invariant-loop-bit
invariant-loop-bit l = l.made.items ≡ l.initial.made.items ++ register_cells (take l.bit l.before) (take l.bit l.bits)
