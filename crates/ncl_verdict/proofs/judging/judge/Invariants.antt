use Rattle.ncl_verdict.proofs.Terms.{None, StageData, get_or, of_stage, stopped_at, ℕ, ◌<◌, ◌≡◌}
use Rattle.ncl_verdict.proofs.judging.judge.Given as goal

-- nothing is said of the stages so far
abbrev pub invariant-loop-stage : goal.invariant-loop-stage
invariant-loop-stage l = (k : ℕ) → k < l.stage-index → (d : StageData) → of_stage (stopped_at l.limit) (get_or l.pipeline.stages k d) ≡ None
