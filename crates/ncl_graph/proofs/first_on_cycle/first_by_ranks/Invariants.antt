use Rattle.ncl_graph.proofs.Terms.{IsOnCycle, ℕ, ◌<◌}
use Rattle.ncl_graph.proofs.first_on_cycle.first_by_ranks.Given as goal

abbrev pub invariant-loop-place : goal.invariant-loop-place
invariant-loop-place l = (i : ℕ) → i < l.place → ¬ IsOnCycle l.graph i
