use Rattle.std.proofs.Common.{◌≡◌, take}
use Rattle.ncl_demo.proofs.covers.cover.Given as goal

abbrev pub invariant-loop-row : goal.invariant-loop-row
invariant-loop-row g l = l.copied.items ≡ take l.row-index l.rows
