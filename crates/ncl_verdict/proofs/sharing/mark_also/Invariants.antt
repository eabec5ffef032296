use Rattle.std.proofs.Common.{◌≡◌, ℕ, ◌⊎◌, true, false, get_or}
use Rattle.ncl_verdict.proofs.sharing.mark_also.Given as goal

-- each mark so far was there, or is of the others
abbrev pub invariant-loop-place : goal.invariant-loop-place
invariant-loop-place l = (at : ℕ) → get_or l.marks.items at false ≡ true → (get_or l.fn.marks.items at false ≡ true) ⊎ (get_or l.others at false ≡ true)
