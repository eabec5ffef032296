use Rattle.ncl_sim.proofs.RowLaws.{AreFirstRows}
use Rattle.ncl_sim.proofs.rows.rows_of.Given as goal

abbrev pub invariant-loop-k : goal.invariant-loop-k
invariant-loop-k l = AreFirstRows l.delays l.cells l.k l.rows.items
