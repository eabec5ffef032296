use Rattle.ncl_blif.proofs.Terms.{drop, is_literal, list_all, lit_of, map, take, ◌≡◌}
use Rattle.ncl_blif.proofs.row.read_pattern.Given as goal

abbrev pub invariant-loop-byte : goal.invariant-loop-byte
invariant-loop-byte l = record {
  lits : l.lits.items ≡ map lit_of (take l.byte-index l.pattern);
  literal : list_all is_literal l.pattern ≡ list_all is_literal (drop l.byte-index l.pattern);
}
