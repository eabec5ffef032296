use Rattle.std.proofs.Common.{length}
use Rattle.ncl_shape.proofs.StageLists.{AreStagesBelow}
use Rattle.ncl_shape.proofs.staging.stages_between.Given as goal

-- the stages of the banks that were gone through, of which the last has none
abbrev pub invariant-loop-cells : goal.invariant-loop-cells
invariant-loop-cells l = AreStagesBelow l.netlist l.banks (length l.yielded) l.stages.items
