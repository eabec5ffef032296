use Rattle.ncl_merge.proofs.Choices.{AreStageNets}
use Rattle.ncl_merge.proofs.rebuilding.stage_nets.Given as goal

abbrev pub invariant-loop-stage : goal.invariant-loop-stage
invariant-loop-stage l = AreStageNets l.pipeline.netlist l.pipeline.stages l.stage-index l.marks.items
