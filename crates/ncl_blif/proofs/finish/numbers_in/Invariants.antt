use Rattle.ncl_blif.proofs.Terms.{map, signal_number, take, ◌≡◌}
use Rattle.ncl_blif.proofs.finish.numbers_in.Given as goal

-- the numbers of the signals so far
abbrev pub invariant-loop-signal : goal.invariant-loop-signal
invariant-loop-signal l =
    l.numbers.items ≡ map (λ signal. signal_number l.draft signal.now) (take l.signal-index l.signals)
