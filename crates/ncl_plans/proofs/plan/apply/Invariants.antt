use Rattle.ncl_plans.proofs.Terms.{All, IsPool, IsSource, Signal, length, take, ℕ}
use Rattle.ncl_plans.proofs.Plans.{AreApplied}
use Rattle.ncl_plans.proofs.plan.apply.Given as goal

abbrev pub invariant-loop-step : goal.invariant-loop-step
invariant-loop-step l =
    (inputs : ℕ) → IsPool inputs l.initial.pool.smalls.items → All (λ (leaf : Signal). IsSource inputs (length l.initial.pool.smalls.items) leaf.from) l.fn.leaves.items → AreApplied inputs l.initial.pool.smalls.items l.fn.leaves.items (take l.step-index l.plan.steps.items) l.pool.smalls.items l.signals.items
