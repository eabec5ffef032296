use Rattle.ncl_rails.proofs.Terms.{Bool, HasBits, SignalSource, length, map, signal_in, take, ◌≡◌}
use Rattle.ncl_rails.proofs.held.word_there.Given as goal

abbrev pub invariant-loop-signal : goal.invariant-loop-signal
invariant-loop-signal l = record {
  bits : (value : SignalSource → Bool) → HasBits value l.sources l.number → map (signal_in value) (take l.signal-index l.ins) ≡ l.word.items;
  count : length l.word.items ≡ l.signal-index;
}
