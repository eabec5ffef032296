use Rattle.ncl_delay.proofs.Terms.{from_first, length, ◌≡◌}
use Rattle.ncl_delay.proofs.lines.from_first.Given as goal

abbrev pub invariant-loop-rest : goal.invariant-loop-rest
invariant-loop-rest l = from_first l.rest ≡ from_first l.line

abbrev pub decreases-loop-rest : goal.decreases-loop-rest
decreases-loop-rest l = length l.rest
