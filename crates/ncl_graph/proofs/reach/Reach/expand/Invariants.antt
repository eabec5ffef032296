use Rattle.ncl_graph.proofs.Terms.{Reaches, take}
use Rattle.ncl_graph.proofs.reach.Reach.expand.Given as goal

abbrev pub invariant-loop-next : goal.invariant-loop-next
invariant-loop-next l = Reaches (take l.next-index l.next-items) l.initial.self.reached.items l.initial.self.waiting.items l.self.reached.items l.self.waiting.items
