use Rattle.ncl_rails.proofs.Terms.{map, signal_pair, take, ◌≡◌}
use Rattle.ncl_rails.proofs.signal_pairs.signal_pairs.Given as goal

abbrev pub invariant-loop-signal : goal.invariant-loop-signal
invariant-loop-signal l = l.found.items ≡ map (signal_pair l.inputs l.pairs) (take l.signal-index l.signals)
