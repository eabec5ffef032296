use Rattle.ncl_plans.proofs.Terms.{ComputesAt, word_of, ℕ, ◌<◌}
use Rattle.ncl_plans.proofs.evaluating.test.Given as goal

abbrev pub invariant-loop-number : goal.invariant-loop-number
invariant-loop-number l = (n : ℕ) → n < l.number → ComputesAt l.nodes l.place l.choice.leaves l.choice.plan (word_of 4 n)
