use Rattle.ncl_bank.proofs.Terms.{nets_below, ◌≡◌}
use Rattle.ncl_bank.proofs.completion.completion.Given as goal

-- the leaves so far
abbrev pub invariant-loop-number : goal.invariant-loop-number
invariant-loop-number l = l.leaves.items ≡ nets_below l.number
