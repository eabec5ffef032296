use Rattle.ncl_decomp.proofs.Terms.{literals_of, map, take, ◌≡◌}
use Rattle.ncl_decomp.proofs.products.products.Given as goal

abbrev pub invariant-loop-row : goal.invariant-loop-row
invariant-loop-row l = l.sum.items ≡ map (literals_of l.ins) (take l.row-index l.rows)
