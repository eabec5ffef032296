use Rattle.ncl_verdict.proofs.Terms.{judgement, take, ◌≡◌}
use Rattle.ncl_verdict.specs.declared.verdict.Verdict.TheVariants as verdict
use Rattle.ncl_verdict.proofs.parallel.judge_each.Given as goal

-- the stages so far are accepted
abbrev pub invariant-loop-stage : goal.invariant-loop-stage
invariant-loop-stage g l = judgement l.limit (take l.stage-index l.stages) ≡ verdict.Accepted
