use Rattle.ncl_cell_rules.proofs.Terms.{range_with_len, ◌≡◌}
use Rattle.ncl_cell_rules.proofs.standing.first_places.Given as goal

-- the places so far
abbrev pub invariant-loop-place : goal.invariant-loop-place
invariant-loop-place l = l.places.items ≡ range_with_len 0 l.place
