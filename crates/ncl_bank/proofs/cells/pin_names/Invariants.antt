use Rattle.ncl_bank.proofs.Terms.{map, name_at, take, ◌≡◌}
use Rattle.ncl_bank.proofs.cells.pin_names.Given as goal

-- the names of the inputs so far
abbrev pub invariant-loop-net : goal.invariant-loop-net
invariant-loop-net l = l.names.items ≡ map (name_at l.nets) (take l.net-index l.net-items)
