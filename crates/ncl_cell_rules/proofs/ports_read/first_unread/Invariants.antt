use Rattle.ncl_cell_rules.proofs.Terms.{IsReadPort, ℕ, ◌<◌}
use Rattle.ncl_cell_rules.proofs.ports_read.first_unread.Given as goal

abbrev pub invariant-loop-net : goal.invariant-loop-net
invariant-loop-net l = (j : ℕ) → j < l.net → IsReadPort l.netlist j
