use Rattle.ncl_plans.proofs.Terms.{Bool, IsKnown, Respects, SignalSource}
use Rattle.ncl_plans.proofs.cone.learn_all.Given as goal

abbrev pub invariant-loop-place : goal.invariant-loop-place
invariant-loop-place l =
    (value : SignalSource → Bool) → Respects l.nodes value → IsKnown value l.initial.known.items → IsKnown value l.known.items
