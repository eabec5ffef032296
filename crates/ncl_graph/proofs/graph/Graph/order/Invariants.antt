use Rattle.ncl_graph.proofs.Terms.{New, Stands, [], mark_at, ℕ, ◌<◌, ◌≡◌, ◌≢◌}
use Rattle.ncl_graph.proofs.graph.Graph.order.Given as goal

abbrev pub invariant-loop-place : goal.invariant-loop-place
invariant-loop-place l = record {
  search : Stands l.self l.search;
  idle : l.search.path.items ≡ [];
  met : (i : ℕ) → i < l.place → mark_at l.search.marks.items i ≢ New;
}
