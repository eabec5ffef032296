use Rattle.ncl_shape.specs.FoundChain.{Relates}
use Rattle.ncl_shape.proofs.OnlyNets.{AreOnlyBelow}
use Rattle.ncl_shape.proofs.only_nets.only_nets.Given as goal

abbrev pub invariant-loop-place : goal.invariant-loop-place
invariant-loop-place l = AreOnlyBelow l.origins.netlist (Relates l.origins.netlist l.relation) l.place l.table.items
