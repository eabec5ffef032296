use Rattle.ncl_machine.proofs.Terms.{Lower, Raise, enabled, false, meaning, ℕ, ◌<◌, ◌≡◌}
use Rattle.ncl_machine.proofs.state.State.source_rests.Given as goal

abbrev pub invariant-loop-bit : goal.invariant-loop-bit
invariant-loop-bit l = (i : ℕ) → i < l.bit → (enabled l.pipeline (meaning l.self) (Raise i) ≡ false) × (enabled l.pipeline (meaning l.self) (Lower i) ≡ false)
