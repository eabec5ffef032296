use Rattle.ncl_reaching.proofs.Terms.{Rails, map, take, value_in, ◌≡◌}
use Rattle.ncl_reaching.proofs.evaluating.read.Given as goal

-- the bits so far are read
abbrev pub invariant-loop-bit : goal.invariant-loop-bit
invariant-loop-bit l = l.word ≡ map (λ (bit : Rails). value_in l.values bit.one.0) (take l.bit-index l.rails)
