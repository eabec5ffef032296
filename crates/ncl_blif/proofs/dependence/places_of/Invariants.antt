use Rattle.ncl_blif.proofs.Terms.{filter_map, get, nat_cmp, take, ◌≡◌}
use Rattle.ncl_blif.proofs.dependence.places_of.Given as goal

-- the places of the signals so far
abbrev pub invariant-loop-signal : goal.invariant-loop-signal
invariant-loop-signal l = l.found.items ≡ filter_map (get nat_cmp l.places) (take l.signal-index l.signals)
