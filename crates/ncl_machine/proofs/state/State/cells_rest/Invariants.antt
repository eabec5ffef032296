use Rattle.ncl_machine.proofs.Terms.{false, is_excited, net_values, slice_get, ℕ, ◌<◌, ◌≡◌}
use Rattle.ncl_machine.proofs.state.State.cells_rest.Given as goal

abbrev pub invariant-loop-k : goal.invariant-loop-k
invariant-loop-k l = (i : ℕ) → i < l.k → is_excited (net_values l.self.values) (slice_get l.pipeline.netlist.cells i) ≡ false
