use Rattle.ncl_compile.proofs.Terms.{inner_pair, map, range_with_len, ◌≡◌}
use Rattle.ncl_compile.proofs.naming.inner_pairs.Given as goal

abbrev pub invariant-loop-bit : goal.invariant-loop-bit
invariant-loop-bit l = l.pairs.items ≡ map (inner_pair l.bank) (range_with_len 0 l.bit)
