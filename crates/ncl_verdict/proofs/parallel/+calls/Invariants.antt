use Rattle.std.proofs.Common.{◌+◌, ◌*◌, length}
use Rattle.ncl_verdict.proofs.parallel.+calls.Given as goal

abbrev pub decreases-judge_halves : goal.decreases-judge_halves
decreases-judge_halves g l = 2 * length l.run.now.stages

abbrev pub decreases-join+arg2 : goal.decreases-join+arg2
decreases-join+arg2 g l = 2 * length l.front.now + 1

abbrev pub decreases-join+arg3 : goal.decreases-join+arg3
decreases-join+arg3 g l = 2 * length l.back.now + 1
