use Rattle.ncl_hazard.proofs.Terms.{fires, map, take, ℕ, ◌≡◌}
use Rattle.ncl_hazard.proofs.schedule.all_items.Given as goal

-- the cells so far
abbrev pub invariant-loop-i : goal.invariant-loop-i
invariant-loop-i l = l.items.items ≡ fires (map (λ (i : ℕ). record { 0 = i }) (take l.i-index l.order))
