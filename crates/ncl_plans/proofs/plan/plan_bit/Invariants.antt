use Rattle.ncl_plans.proofs.Terms.{step_values, take, ◌≡◌}
use Rattle.ncl_plans.proofs.plan.plan_bit.Given as goal

abbrev pub invariant-loop-step : goal.invariant-loop-step
invariant-loop-step l = l.bits.items ≡ step_values l.fn.leaves.items (take l.step-index l.plan.steps.items)
