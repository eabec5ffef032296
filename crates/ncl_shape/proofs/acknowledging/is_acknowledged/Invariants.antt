use Rattle.ncl_shape.proofs.AcknowledgeLaws.{AreAcknowledged}
use Rattle.ncl_shape.proofs.acknowledging.is_acknowledged.Given as goal

abbrev pub invariant-loop-next : goal.invariant-loop-next
invariant-loop-next l = AreAcknowledged l.origins.netlist l.banks l.next
