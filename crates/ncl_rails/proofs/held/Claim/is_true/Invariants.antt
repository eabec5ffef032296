use Rattle.ncl_rails.proofs.Terms.{Bool, HasBits, IsAwaited, SignalSource, waits_of, ℕ, ◌<◌}
use Rattle.ncl_rails.proofs.held.Claim.is_true.Given as goal

abbrev pub invariant-loop-number : goal.invariant-loop-number
invariant-loop-number l =
    (n : ℕ) → n < l.number → (value : SignalSource → Bool) → HasBits value l.self.sources.now n → IsAwaited l.self.network.now (waits_of l.self.waits.now) value l.self.source
