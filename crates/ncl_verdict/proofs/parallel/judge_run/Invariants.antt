use Rattle.ncl_verdict.proofs.Terms.{judgement, take, ◌≡◌}
use Rattle.ncl_verdict.specs.declared.verdict.Verdict.TheVariants as verdict
use Rattle.ncl_verdict.proofs.parallel.judge_run.Given as goal

-- the stages so far are accepted
abbrev pub invariant-loop-number : goal.invariant-loop-number
invariant-loop-number g l = judgement l.limit (take l.number l.stages) ≡ verdict.Accepted
