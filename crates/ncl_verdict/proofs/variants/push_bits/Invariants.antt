use Rattle.ncl_verdict.proofs.Terms.{Bit, below, map, ◌++◌, ◌≡◌}
use Rattle.ncl_verdict.proofs.variants.push_bits.Given as goal

-- the bits so far are there
abbrev pub invariant-loop-bit : goal.invariant-loop-bit
invariant-loop-bit l = l.variants.items ≡ l.fn.variants.items ++ map Bit (below l.bit)
