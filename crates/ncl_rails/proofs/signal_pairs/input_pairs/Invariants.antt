use Rattle.ncl_rails.proofs.Terms.{input_pairs, ◌≡◌}
use Rattle.ncl_rails.proofs.signal_pairs.input_pairs.Given as goal

abbrev pub invariant-loop-i : goal.invariant-loop-i
invariant-loop-i l = l.pairs.items ≡ input_pairs l.i
