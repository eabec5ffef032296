use Rattle.ncl_graph.proofs.Terms.{Contains, rank_of, successors, ℕ, ◌<◌, ◌≤◌}
use Rattle.ncl_graph.proofs.ranks.never_rises.Given as goal

abbrev pub invariant-loop-place : goal.invariant-loop-place
invariant-loop-place l = (i j : ℕ) → i < l.place → Contains (successors l.graph i) j → rank_of l.ranks j ≤ rank_of l.ranks i
