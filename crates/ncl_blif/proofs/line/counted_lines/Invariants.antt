use Rattle.std.proofs.Common.{map}
use Rattle.ncl_blif.proofs.Counted.{AreCut}
use Rattle.ncl_blif.proofs.line.counted_lines.Given as goal

abbrev pub invariant-loop-count : goal.invariant-loop-count
invariant-loop-count l = AreCut (map (λ field. field.now) l.fields) l.count-items l.count-index l.from l.lines.items
