use Rattle.ncl_match.proofs.Terms.{map, pair_at, take, ◌≡◌}
use Rattle.ncl_match.proofs.signals.pairs_of.Given as goal

-- the pairs of the signals so far
abbrev pub invariant-loop-number : goal.invariant-loop-number
invariant-loop-number l = l.found.items ≡ map (pair_at l.pairs) (take l.number-index l.numbers)
