use Rattle.ncl_graph.proofs.Terms.{IsWhole, vec_len, ◌≡◌}
use Rattle.ncl_graph.proofs.components.Components.close.Given as goal

abbrev pub invariant-loop-member : goal.invariant-loop-member
invariant-loop-member l = record {
  whole : IsWhole l.self;
  numbers : l.self.numbers.items ≡ l.initial.self.numbers.items;
  path : l.self.path.items ≡ l.initial.self.path.items;
}

abbrev pub decreases-loop-member : goal.decreases-loop-member
decreases-loop-member l = vec_len l.self.unranked
