use Rattle.ncl_shape.proofs.Terms.{AllZip, AreOnSide, take}
use Rattle.ncl_shape.proofs.rail_lists.rails_on.Given as goal

abbrev pub invariant-loop-bit : goal.invariant-loop-bit
invariant-loop-bit l = AllZip (AreOnSide l.netlist l.side) (take l.bit-index l.bits) l.rails.items
