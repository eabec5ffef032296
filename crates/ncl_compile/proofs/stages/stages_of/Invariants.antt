use Rattle.ncl_compile.proofs.Terms.{AreStages, take}
use Rattle.ncl_compile.proofs.stages.stages_of.Given as goal

abbrev pub invariant-loop-number : goal.invariant-loop-number
invariant-loop-number l = AreStages (take l.number l.models) l.stages.items
