use Rattle.ncl_shape.proofs.WalkLaws.{IsWalkSoFar}
use Rattle.ncl_shape.proofs.walking.walk.Given as goal

abbrev pub invariant-loop : goal.invariant-loop
invariant-loop l = IsWalkSoFar l.netlist l.fn.first.0 l.banks.items l.last.0 l.counter
