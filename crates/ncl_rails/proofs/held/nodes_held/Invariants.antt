use Rattle.ncl_rails.proofs.Terms.{FromNode, IsHeld, waits_of, ℕ, ◌<◌}
use Rattle.ncl_rails.proofs.held.nodes_held.Given as goal

abbrev pub invariant-loop-k : goal.invariant-loop-k
invariant-loop-k l = (j : ℕ) → j < l.k → IsHeld l.network (waits_of l.waits) (FromNode j)
