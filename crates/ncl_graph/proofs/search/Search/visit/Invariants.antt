use Rattle.ncl_graph.proofs.Terms.{New, Stands, StaysMet, mark_at, ◌≢◌}
use Rattle.ncl_graph.specs.Search.{work}
use Rattle.ncl_graph.proofs.search.Search.visit.Given as goal

abbrev pub invariant-loop-place : goal.invariant-loop-place
invariant-loop-place l = record {
  search : Stands l.graph l.self;
  met : StaysMet l.fn.self.marks.items l.self.marks.items;
  root : mark_at l.self.marks.items l.root ≢ New;
}

abbrev pub decreases-loop-place : goal.decreases-loop-place
decreases-loop-place l = work l.self
