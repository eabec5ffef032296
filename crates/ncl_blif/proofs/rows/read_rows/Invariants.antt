use Rattle.ncl_blif.proofs.RowSteps.{AreRead}
use Rattle.ncl_blif.proofs.rows.read_rows.Given as goal

abbrev pub invariant-loop-line : goal.invariant-loop-line
invariant-loop-line l = AreRead l.inputs l.lines l.line-index l.rows.items l.on
