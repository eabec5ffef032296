use Rattle.ncl_shape.proofs.Terms.{HasOneRole, IsInputPort, ℕ, ◌<◌}
use Rattle.ncl_shape.proofs.roles.have_one_role.Given as goal

abbrev pub invariant-loop-net : goal.invariant-loop-net
invariant-loop-net l = (j : ℕ) → j < l.net → IsInputPort l.netlist j → HasOneRole l.netlist j
