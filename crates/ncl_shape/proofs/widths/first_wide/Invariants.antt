use Rattle.ncl_shape.proofs.Terms.{MOST_BITS, [], get_or, length, map, ℕ, ◌<◌, ◌≤◌}
use Rattle.ncl_shape.proofs.widths.first_wide.Given as goal

abbrev pub invariant-loop-k : goal.invariant-loop-k
invariant-loop-k l = (j : ℕ) → j < l.k → length (get_or (map (λ v. v.items) l.lists) j []) ≤ MOST_BITS
