use Rattle.ncl_stage.proofs.Terms.{range_with_len, with_bits, ◌≡◌}
use Rattle.ncl_stage.proofs.walk.add_bits.Given as goal

-- so many bits were added
abbrev pub invariant-loop-bit : goal.invariant-loop-bit
invariant-loop-bit l = l.found.keys ≡ with_bits l.fn.found.keys (range_with_len 0 l.bit)
