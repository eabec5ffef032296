use Rattle.ncl_stage.proofs.Terms.{map, ref_at, take, ◌≡◌}
use Rattle.ncl_stage.proofs.nets.refs_at.Given as goal

-- the Refs at the places so far
abbrev pub invariant-loop-place : goal.invariant-loop-place
invariant-loop-place l = l.found.items ≡ map (ref_at l.refs) (take l.place-index l.places)
