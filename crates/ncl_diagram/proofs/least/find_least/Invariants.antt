use Rattle.ncl_diagram.proofs.Terms.{least, table_from}
use Rattle.ncl_diagram.proofs.LeastLaws.{Walks}
use Rattle.ncl_diagram.proofs.least.find_least.Given as goal

abbrev pub invariant-loop-bit : goal.invariant-loop-bit
invariant-loop-bit g l = Walks l.fn.width l.fn.nodes l.fn.value (least l.fn.value l.fn.width (table_from l.fn.nodes l.fn.width 0 l.fn.x.place)) l.bit l.at.place l.word
