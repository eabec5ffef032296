use Rattle.ncl_reader.proofs.Terms.{◌≡◌, ℕ, ◌-◌, ◌<◌, ◌≤◌, length, get_or}
use Rattle.ncl_reader.proofs.number.without_zeros.Given as goal

-- so many zeros stand at the front
abbrev pub invariant-loop-zeros : goal.invariant-loop-zeros
invariant-loop-zeros l = (l.zeros ≤ length l.digits) × ((k : ℕ) → k < l.zeros → get_or l.digits k 0 ≡ 48)

abbrev pub decreases-loop-zeros : goal.decreases-loop-zeros
decreases-loop-zeros l = length l.digits - l.zeros
