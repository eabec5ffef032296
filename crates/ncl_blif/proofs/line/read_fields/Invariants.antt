use Rattle.std.proofs.Common.{length, map}
use Rattle.ncl_blif.proofs.Counted.{AreRead}
use Rattle.ncl_blif.proofs.line.read_fields.Given as goal

abbrev pub invariant-loop-rest : goal.invariant-loop-rest
invariant-loop-rest l = AreRead l.text (map (λ field. field.now) l.fields.items) l.counts.items l.number l.rest

abbrev pub decreases-loop-rest : goal.decreases-loop-rest
decreases-loop-rest l = length l.rest
