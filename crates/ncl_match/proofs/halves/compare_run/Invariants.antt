use Rattle.ncl_match.proofs.Terms.{RunAnswers}
use Rattle.ncl_match.proofs.halves.compare_run.Given as goal

-- the answer to the outputs so far
abbrev pub invariant-loop-output : goal.invariant-loop-output
invariant-loop-output g l = RunAnswers (g.Q.Ask.question l.asked) l.low l.output l.told
