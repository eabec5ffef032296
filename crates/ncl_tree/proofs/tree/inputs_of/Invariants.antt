use Rattle.std.proofs.Common.{◌≡◌, take}
use Rattle.ncl_tree.proofs.tree.inputs_of.Given as goal

-- the nets so far
abbrev pub invariant-loop-net : goal.invariant-loop-net
invariant-loop-net l = l.ins.items ≡ take l.net-index l.nets
