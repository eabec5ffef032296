use Rattle.ncl_graph.proofs.Terms.{IsWhole, length, ◌≡◌}
use Rattle.ncl_graph.proofs.components.component_numbers.Given as goal

abbrev pub invariant-loop-place : goal.invariant-loop-place
invariant-loop-place l = record {
  whole : IsWhole l.search;
  places : length l.search.numbers.items ≡ length l.graph;
}
