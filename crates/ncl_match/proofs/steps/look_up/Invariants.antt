use Rattle.ncl_match.proofs.Terms.{Some, get, map, nat_cmp, take, ◌≡◌}
use Rattle.ncl_match.proofs.steps.look_up.Given as goal

-- the signals so far are looked up
abbrev pub invariant-loop-signal : goal.invariant-loop-signal
invariant-loop-signal l =
    map Some l.found.items ≡ map (get nat_cmp l.numbers) (take l.signal-index l.signals)
