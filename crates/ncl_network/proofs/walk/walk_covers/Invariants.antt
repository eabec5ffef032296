use Rattle.ncl_network.proofs.Terms.{IsWalked, get, nat_cmp, take}
use Rattle.ncl_network.proofs.walk.walk_covers.Given as goal

abbrev pub invariant-loop-place : goal.invariant-loop-place
invariant-loop-place l =
    IsWalked l.model (get nat_cmp l.walk.signals) l.walk.nodes.items (take l.place-index l.order)
