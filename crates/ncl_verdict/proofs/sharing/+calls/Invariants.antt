use Rattle.std.proofs.Common.{◌+◌, ◌*◌}
use Rattle.ncl_verdict.proofs.sharing.+calls.Given as goal

abbrev pub decreases-hear_parts : goal.decreases-hear_parts
decreases-hear_parts g l = 2 * l.parts

abbrev pub decreases-join+arg2 : goal.decreases-join+arg2
decreases-join+arg2 g l = 2 * l.few + 1

abbrev pub decreases-join+arg3 : goal.decreases-join+arg3
decreases-join+arg3 g l = 2 * l.many + 1
