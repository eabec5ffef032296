use Rattle.ncl_shape.specs.Chain.{IsFirstBank, IsLastBank}
use Rattle.ncl_shape.proofs.OnlyNets.{IsOneBelow}
use Rattle.ncl_shape.proofs.ends.first_of_ends.Given as goal

-- the ends among the nets so far
abbrev pub invariant-loop-net : goal.invariant-loop-net
invariant-loop-net l = record { first : IsOneBelow (IsFirstBank l.origins.netlist) l.net l.first; last : IsOneBelow (IsLastBank l.origins.netlist) l.net l.last }
