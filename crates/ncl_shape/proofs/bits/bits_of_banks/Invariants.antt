use Rattle.ncl_shape.proofs.Terms.{AllZip, map, requests_of}
use Rattle.ncl_shape.proofs.BitSteps.{AreBitsBelow}
use Rattle.ncl_shape.proofs.bits.bits_of_banks.Given as goal

-- each list has the bits of its bank among the cells so far
abbrev pub invariant-loop-place : goal.invariant-loop-place
invariant-loop-place l = AllZip (AreBitsBelow l.origins.netlist l.place) (requests_of l.chain) (map (λ v. v.items) l.lists.items)
