use Rattle.ncl_bank.proofs.Terms.{ack_of, length, map, take, zip}
use Rattle.ncl_bank.proofs.Named.{IsAdded}
use Rattle.ncl_bank.proofs.cells.add_acks.Given as goal

-- the cells of the pairs so far
abbrev pub invariant-loop-pair : goal.invariant-loop-pair
invariant-loop-pair l = IsAdded l.prefix l.initial.cells.items (map ack_of (take (length l.yielded) (zip l.pairs l.nets))) l.cells.items
