use Rattle.ncl_delay.proofs.Terms.{from_first, length, reverse, ◌≡◌}
use Rattle.ncl_delay.proofs.lines.to_last.Given as goal

abbrev pub invariant-loop-rest : goal.invariant-loop-rest
invariant-loop-rest l = from_first (reverse l.rest) ≡ from_first (reverse l.line)

abbrev pub decreases-loop-rest : goal.decreases-loop-rest
decreases-loop-rest l = length l.rest
