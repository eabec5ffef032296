use Rattle.ncl_cell_rules.proofs.Terms.{false, get_or, length, list_any, take, ℕ, ◌<◌, ◌||◌, ◌≡◌}
use Rattle.ncl_cell_rules.proofs.ReadTables.{has_pin}
use Rattle.ncl_cell_rules.proofs.reading.mark.Given as goal

-- a net is marked where it was, or where one of the pins so far has it
abbrev pub invariant-loop-net : goal.invariant-loop-net
invariant-loop-net l =
    (net : ℕ) → net < length l.flags → get_or l.flags net false ≡ (get_or l.initial.flags net false || list_any (has_pin net) (take l.net-index l.pins))
