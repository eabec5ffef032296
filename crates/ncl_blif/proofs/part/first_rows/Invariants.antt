use Rattle.ncl_blif.proofs.Terms.{drop, is_row, prefix_len, ◌+◌, ◌≡◌}
use Rattle.ncl_blif.proofs.part.first_rows.Given as goal

abbrev pub invariant-loop-count : goal.invariant-loop-count
invariant-loop-count l = prefix_len is_row l.lines ≡ l.count + prefix_len is_row (drop l.count l.lines)
