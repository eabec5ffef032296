use Rattle.std.proofs.Common.{◌≡◌, ℕ, ◌<◌, true, false, get_or}
use Rattle.ncl_verdict.proofs.sharing.marked_first.Given as goal

-- all places so far are marked
abbrev pub invariant-loop-place : goal.invariant-loop-place
invariant-loop-place l = (at : ℕ) → at < l.place → get_or l.marks at false ≡ true
