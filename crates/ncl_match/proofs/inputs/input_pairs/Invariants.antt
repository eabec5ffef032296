use Rattle.ncl_match.proofs.PlanSteps.{InputLoop}
use Rattle.ncl_match.proofs.inputs.input_pairs.Given as goal

-- the bits so far are done
abbrev pub invariant-loop-bit : goal.invariant-loop-bit
invariant-loop-bit g l = InputLoop (g.P.Space.meaning l.fn.space) (g.P.Space.meaning l.space) l.inputs l.marks l.initial.pairs l.pairs l.bit
