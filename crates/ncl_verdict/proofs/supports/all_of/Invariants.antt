use Rattle.ncl_verdict.proofs.Terms.{IsPart, get_or, mask_at, ℕ, ◌<◌}
use Rattle.ncl_verdict.proofs.supports.all_of.Given as goal

-- the masks at the places so far are parts of it
abbrev pub invariant-loop-place : goal.invariant-loop-place
invariant-loop-place l = (k : ℕ) → k < l.place-index → IsPart (mask_at l.masks (get_or l.places k 0)) l.all
