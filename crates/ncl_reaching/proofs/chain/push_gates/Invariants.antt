use Rattle.ncl_reaching.proofs.Terms.{by_net, map, take, ◌++◌, ◌≡◌}
use Rattle.ncl_reaching.proofs.chain.push_gates.Given as goal

-- the gates so far stand after the others
abbrev pub invariant-loop-gate : goal.invariant-loop-gate
invariant-loop-gate l = l.cells.items ≡ l.fn.cells.items ++ map by_net (take l.gate-index l.gates)
