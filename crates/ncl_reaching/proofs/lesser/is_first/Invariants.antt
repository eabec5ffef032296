use Rattle.ncl_reaching.proofs.Terms.{drop, is_first, ◌≡◌}
use Rattle.ncl_reaching.proofs.lesser.is_first.Given as goal

-- the bits so far are the same
abbrev pub invariant-loop-place : goal.invariant-loop-place
invariant-loop-place l = is_first l.word l.other ≡ is_first (drop l.place l.word) (drop l.place l.other)
