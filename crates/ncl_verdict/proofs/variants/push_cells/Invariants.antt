use Rattle.ncl_verdict.proofs.Terms.{Cell, map, take, ◌++◌, ◌≡◌}
use Rattle.ncl_verdict.proofs.variants.push_cells.Given as goal

-- the cells so far are there
abbrev pub invariant-loop-place : goal.invariant-loop-place
invariant-loop-place l = l.variants.items ≡ l.fn.variants.items ++ map (λ cell. Cell cell.1) (take l.place-index l.cells)
