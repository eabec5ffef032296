use Rattle.ncl_stage.proofs.Terms.{nets_of, take, ◌≡◌}
use Rattle.ncl_stage.proofs.wiring.number_nets.Given as goal

-- the rails and the outputs of the cells so far are numbered
abbrev pub invariant-loop-cell : goal.invariant-loop-cell
invariant-loop-cell l = l.nets.keys ≡ nets_of l.stage.inputs (take l.cell-index l.stage.cells)
