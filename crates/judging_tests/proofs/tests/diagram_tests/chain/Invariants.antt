use Rattle.ncl_space.specs.Space.{IsLive, Keeps}
use Rattle.judging_tests.proofs.tests.diagram_tests.chain.Given as goal

abbrev pub invariant-loop-bit : goal.invariant-loop-bit
invariant-loop-bit g l =
    IsLive (g.P.Space.meaning l.space) l.last × Keeps (g.P.Space.meaning l.fn.space) (g.P.Space.meaning l.space)
