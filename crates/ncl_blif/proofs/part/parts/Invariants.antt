use Rattle.ncl_blif.proofs.Terms.{drop, parts_of, ◌++◌, ◌≡◌}
use Rattle.ncl_blif.proofs.part.parts.Given as goal

abbrev pub invariant-loop-place : goal.invariant-loop-place
invariant-loop-place l = parts_of l.lines ≡ l.parts.items ++ parts_of (drop l.place l.lines)
