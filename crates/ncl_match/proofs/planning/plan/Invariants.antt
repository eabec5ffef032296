use Rattle.ncl_match.proofs.Terms.{gathered, plan_turn, ◌≡◌}
use Rattle.ncl_match.proofs.planning.plan.Given as goal

-- the cells of the banks so far
abbrev pub invariant-loop-place : goal.invariant-loop-place
invariant-loop-place l = l.made.items ≡ gathered (plan_turn l.pipeline) l.place
