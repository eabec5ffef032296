use Rattle.ncl_reaching.proofs.Terms.{followers, take, ◌++◌, ◌≡◌}
use Rattle.ncl_reaching.proofs.chain.push_followers.Given as goal

-- the followers of the bits so far stand after the others
abbrev pub invariant-loop-bit : goal.invariant-loop-bit
invariant-loop-bit l = l.cells.items ≡ l.fn.cells.items ++ followers (take l.bit l.outputs) (take l.bit l.rails)
