use Rattle.ncl_decomp.proofs.Terms.{AreSplit, take}
use Rattle.ncl_decomp.proofs.splitting.decompose.Given as goal

abbrev pub invariant-loop-node : goal.invariant-loop-node
invariant-loop-node l =
    AreSplit l.network.inputs (take l.node-index l.node-items) l.nodes.items l.images.items
