use Rattle.ncl_match.proofs.Terms.{None, Some, get, if◌then◌else◌, nat_cmp, nat_lt, slice_index_or, ℕ, ◌≡◌}
use Rattle.ncl_match.proofs.steps.begin.Given as goal

-- the signals so far have their numbers
abbrev pub invariant-loop-signal : goal.invariant-loop-signal
invariant-loop-signal l =
    (q : ℕ) → get nat_cmp l.numbers q ≡ (if nat_lt q l.signal then Some (slice_index_or l.ins q 0) else None)
