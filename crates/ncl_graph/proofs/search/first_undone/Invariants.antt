use Rattle.ncl_graph.proofs.Terms.{Done, mark_at, slice_index_or, ℕ, ◌<◌, ◌≡◌, ◌≤◌}
use Rattle.ncl_graph.proofs.search.first_undone.Given as goal

abbrev pub invariant-loop-k : goal.invariant-loop-k
invariant-loop-k l = (k : ℕ) → l.from ≤ k → k < l.k → mark_at l.marks (slice_index_or l.successors k 0) ≡ Done
