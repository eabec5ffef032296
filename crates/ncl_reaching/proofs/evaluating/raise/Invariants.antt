use Rattle.ncl_reaching.proofs.Terms.{among, drop, length, named_rails, value_in, ℕ, ◌||◌, ◌≡◌, ◌≤◌}
use Rattle.ncl_reaching.proofs.evaluating.raise.Given as goal

-- the rails of the bits from here on are raised
abbrev pub invariant-loop-left : goal.invariant-loop-left
invariant-loop-left l = record {
  many : length l.values.items ≡ length l.fn.values.items;
  within : l.left ≤ length l.inputs;
  named : (net : ℕ) → value_in l.values.items net ≡ (among (named_rails (drop l.left l.inputs) (drop l.left l.word)) net || value_in l.fn.values.items net);
}

abbrev pub decreases-loop-left : goal.decreases-loop-left
decreases-loop-left l = l.left
