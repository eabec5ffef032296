use Rattle.ncl_shape.proofs.Terms.{AllZip, map, requests_of, take}
use Rattle.ncl_shape.proofs.StageSteps.{AreGatesAmong}
use Rattle.ncl_shape.proofs.stage_cells.gates_of_banks.Given as goal

-- each list has the gate cells of its bank among those so far
abbrev pub invariant-loop-place : goal.invariant-loop-place
invariant-loop-place l = AllZip (AreGatesAmong l.origins.netlist (take l.place-index l.place-items)) (requests_of l.chain) (map (λ v. v.items) l.lists.items)
