use Rattle.ncl_shape.proofs.Terms.{IsBank, Some, number_at, ℕ, ◌<◌, ◌≡◌}
use Rattle.ncl_shape.proofs.walking.are_all_numbered.Given as goal

abbrev pub invariant-loop-net : goal.invariant-loop-net
invariant-loop-net l = (j : ℕ) → j < l.net → IsBank l.origins.netlist j → (k : ℕ) × (number_at l.numbers j ≡ Some k)
