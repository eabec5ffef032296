use Rattle.ncl_network.proofs.Terms.{select, take, ◌≡◌}
use Rattle.ncl_network.proofs.select.select.Given as goal

abbrev pub invariant-loop-place : goal.invariant-loop-place
invariant-loop-place g l = l.kept.items ≡ select (take l.place l.mask) (take l.place l.items)
