use Rattle.ncl_rails.proofs.Terms.{false, is_among, slice_index_or, take, ℕ, ◌||◌, ◌≡◌}
use Rattle.ncl_rails.proofs.unread.mark.Given as goal

abbrev pub invariant-loop-signal : goal.invariant-loop-signal
invariant-loop-signal l =
    (i : ℕ) → slice_index_or l.read i false ≡ (slice_index_or l.initial.read i false || is_among (take l.signal-index l.signals) i)
