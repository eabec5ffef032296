use Rattle.ncl_space.specs.Space.{IsLive}
use Rattle.judging_tests.proofs.tests.diagram_tests.repeated.Given as goal

abbrev pub invariant-loop : goal.invariant-loop
invariant-loop g l = IsLive (g.P.Space.meaning l.space) l.f × IsLive (g.P.Space.meaning l.space) l.g
