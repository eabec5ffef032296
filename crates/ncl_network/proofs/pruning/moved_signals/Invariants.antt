use Rattle.ncl_network.proofs.Terms.{map, moved_signal, slice_index_or, take, ◌≡◌}
use Rattle.ncl_network.proofs.pruning.moved_signals.Given as goal

abbrev pub invariant-loop-signal : goal.invariant-loop-signal
invariant-loop-signal l =
    l.found.items ≡ map (moved_signal (λ k. slice_index_or l.places k 0)) (take l.signal-index l.signals)
