use Rattle.ncl_stage.proofs.Terms.{if◌then◌else◌, map, nat_eq, ref_at, take, ◌≡◌}
use Rattle.ncl_stage.proofs.observing.refs_without.Given as goal

-- the Refs at the places so far, but for one place
abbrev pub invariant-loop-at : goal.invariant-loop-at
invariant-loop-at l = l.found.items ≡ map (λ at. if nat_eq at l.place then l.other else ref_at l.refs at) (take l.at-index l.places)
