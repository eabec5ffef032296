use Rattle.ncl_sim.proofs.Terms.{[], list_at, map, ℕ, ◌%◌, ◌+◌, ◌<◌, ◌≡◌}
use Rattle.ncl_sim.proofs.wheel.next_list.Given as goal

-- the lists so far are empty
abbrev pub invariant-loop-ahead : goal.invariant-loop-ahead
invariant-loop-ahead l = (k : ℕ) → k < l.ahead → 0 < k → list_at (map (λ v. v.items) l.lists) ((l.time % 64 + k) % 64) ≡ []
