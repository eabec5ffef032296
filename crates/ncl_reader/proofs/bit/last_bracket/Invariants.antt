use Rattle.ncl_reader.proofs.Terms.{◌≢◌, ℕ, ◌≤◌, List, ◌∷◌, ◌++◌, length, drop}
use Rattle.ncl_reader.proofs.bit.last_bracket.Given as goal

-- none stands behind
abbrev pub invariant-loop-place : goal.invariant-loop-place
invariant-loop-place l = (l.place ≤ length l.bytes) × ((front rest : List ℕ) → drop l.place l.bytes ≢ front ++ 91 ∷ rest)

abbrev pub decreases-loop-place : goal.decreases-loop-place
decreases-loop-place l = l.place
