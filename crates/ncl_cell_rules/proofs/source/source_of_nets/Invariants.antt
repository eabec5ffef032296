use Rattle.ncl_cell_rules.proofs.Terms.{IsSummary, OfNets, take}
use Rattle.ncl_cell_rules.proofs.source.source_of_nets.Given as goal

abbrev pub invariant-loop-k : goal.invariant-loop-k
invariant-loop-k l = IsSummary (OfNets l.netlist (take l.k l.nets)) l.source
