use Rattle.ncl_reaching.proofs.Terms.{length, none_low, pass, take, value_in, ℕ, ◌≡◌}
use Rattle.ncl_reaching.proofs.evaluating.evaluate.Given as goal

-- the gates so far have their values
abbrev pub invariant-loop-gate : goal.invariant-loop-gate
invariant-loop-gate l = record {
  many : length l.values.items ≡ length l.fn.values.items;
  values : (net : ℕ) → value_in l.values.items net ≡ pass none_low (take l.gate-index l.gates) (value_in l.fn.values.items) net;
}
