use Rattle.ncl_merge.proofs.Terms.{HaveGates, all_of, take}
use Rattle.ncl_merge.proofs.rebuilding.put_lists.Given as goal

-- the cells of the lists so far are at their nets
abbrev pub invariant-loop-cells : goal.invariant-loop-cells
invariant-loop-cells l = HaveGates l.gates (all_of (take l.cells-index l.lists))
