use Rattle.ncl_verdict.proofs.Terms.{below, file_number, map, ◌≡◌}
use Rattle.ncl_verdict.proofs.file_order.numbered_cells.Given as goal

-- the numbers and places of the cells so far
abbrev pub invariant-loop-place : goal.invariant-loop-place
invariant-loop-place l = l.cells.items ≡ map (λ place. (file_number l.stage place, place)) (below l.place)
