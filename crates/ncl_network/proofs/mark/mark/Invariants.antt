use Rattle.ncl_network.proofs.Terms.{is_kept, is_read, take, ℕ, ◌||◌, ◌≡◌}
use Rattle.ncl_network.proofs.mark.mark.Given as goal

abbrev pub invariant-loop-signal : goal.invariant-loop-signal
invariant-loop-signal l =
    (k : ℕ) → is_kept l.kept k ≡ (is_kept l.initial.kept k || is_read (take l.signal-index l.signals) k)
