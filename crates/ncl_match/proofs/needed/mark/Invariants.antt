use Rattle.ncl_match.proofs.Terms.{bit_at, is_among, take, ℕ, ◌||◌, ◌≡◌}
use Rattle.ncl_match.proofs.needed.mark.Given as goal

-- the signals so far are marked
abbrev pub invariant-loop-number : goal.invariant-loop-number
invariant-loop-number l = (n : ℕ) → bit_at l.marks n ≡ (bit_at l.initial.marks n || is_among (take l.number-index l.numbers) n)
