use Rattle.ncl_cell_rules.proofs.Terms.{get_or, length, pins_with, take, ℕ, ◌+◌, ◌<◌, ◌≡◌}
use Rattle.ncl_cell_rules.proofs.counting.count_pins.Given as goal

-- each net is counted once for each of the pins so far that have it
abbrev pub invariant-loop-net : goal.invariant-loop-net
invariant-loop-net l =
    (net : ℕ) → net < length l.counts → get_or l.counts net 0 ≡ get_or l.initial.counts net 0 + pins_with net (take l.net-index l.pins)
