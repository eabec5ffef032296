use Rattle.ncl_rails.proofs.Terms.{AreLaidOut, take, waits_of, ◌≡◌}
use Rattle.ncl_rails.proofs.layout.add_nodes.Given as goal

abbrev pub invariant-loop-node : goal.invariant-loop-node
invariant-loop-node l = record {
  laid : AreLaidOut l.inputs (waits_of l.waits) (take l.node-index l.node-items) l.gates.cells l.pairs.items;
  first : l.gates.first ≡ l.initial.gates.first;
}
