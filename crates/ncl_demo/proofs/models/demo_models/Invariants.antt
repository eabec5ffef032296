use Rattle.ncl_demo.proofs.Joining.{Row}
use Rattle.ncl_demo.proofs.models.demo_models.Given as goal

abbrev pub invariant-loop-stage : goal.invariant-loop-stage
invariant-loop-stage l = Row l.bits l.models.items l.stage
