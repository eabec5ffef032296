use Rattle.ncl_network.proofs.Terms.{None, Some, get, if◌then◌else◌, input_signal, nat_cmp, nat_lt, ℕ, ◌≡◌}
use Rattle.ncl_network.proofs.walk.begin.Given as goal

abbrev pub invariant-loop-name : goal.invariant-loop-name
invariant-loop-name l =
    (q : ℕ) → get nat_cmp l.signals q ≡ (if nat_lt q l.name then Some (input_signal q) else None)
