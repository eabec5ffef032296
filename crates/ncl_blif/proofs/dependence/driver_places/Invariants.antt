use Rattle.ncl_blif.proofs.Terms.{driver_place, get, nat_cmp, take, ℕ, ◌≡◌}
use Rattle.ncl_blif.proofs.dependence.driver_places.Given as goal

-- the map has the places among the covers so far
abbrev pub invariant-loop-place : goal.invariant-loop-place
invariant-loop-place l =
    (signal : ℕ) → get nat_cmp l.places signal ≡ driver_place (take l.place l.covers) signal
