use Rattle.ncl_blif.proofs.Terms.{range_with_len, ◌≡◌}
use Rattle.ncl_blif.proofs.finish.first_numbers.Given as goal

abbrev pub invariant-loop-number : goal.invariant-loop-number
invariant-loop-number l = l.numbers.items ≡ range_with_len 0 l.number
