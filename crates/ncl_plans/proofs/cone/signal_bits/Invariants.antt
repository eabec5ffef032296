use Rattle.ncl_plans.proofs.Terms.{Bool, IsKnown, SignalSource, map, signal_in, take, ◌≡◌}
use Rattle.ncl_plans.proofs.cone.signal_bits.Given as goal

abbrev pub invariant-loop-signal : goal.invariant-loop-signal
invariant-loop-signal l =
    (value : SignalSource → Bool) → IsKnown value l.known → map (signal_in value) (take l.signal-index l.signals) ≡ l.bits.items
