use Rattle.ncl_cell_rules.proofs.Terms.{AreSourcesOf, take}
use Rattle.ncl_cell_rules.proofs.net_sources.net_sources.Given as goal

abbrev pub invariant-loop-place : goal.invariant-loop-place
invariant-loop-place l = AreSourcesOf l.netlist (take l.place-index l.order) l.sources.items
