use Rattle.ncl_verdict.proofs.Terms.{Covers, lost_mask, weight_lost, ℕ, ◌<◌}
use Rattle.ncl_verdict.proofs.few.most_lost.Given as goal

-- none of the variants at the places so far weighs more
abbrev pub invariant-loop-place : goal.invariant-loop-place
invariant-loop-place l = (place : ℕ) → place < l.place → Covers (weight_lost l.masks l.outputs (lost_mask l.bits l.reaches place)) l.most
