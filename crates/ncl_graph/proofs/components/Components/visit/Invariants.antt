use Rattle.ncl_graph.proofs.Terms.{IsWhole, length, work, ◌≡◌}
use Rattle.ncl_graph.proofs.components.Components.visit.Given as goal

abbrev pub invariant-loop-place : goal.invariant-loop-place
invariant-loop-place l = record {
  whole : IsWhole l.self;
  places : length l.self.numbers.items ≡ length l.graph;
}

abbrev pub decreases-loop-place : goal.decreases-loop-place
decreases-loop-place l = work l.self
