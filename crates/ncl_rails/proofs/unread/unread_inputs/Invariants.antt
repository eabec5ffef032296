use Rattle.ncl_rails.proofs.Terms.{filter, input_signal, is_input_read, map, not, range_with_len, ◌≡◌}
use Rattle.ncl_rails.proofs.unread.unread_inputs.Given as goal

abbrev pub invariant-loop-i : goal.invariant-loop-i
invariant-loop-i l = l.unread.items ≡ map input_signal (filter (λ i. not (is_input_read l.network i)) (range_with_len 0 l.i))
