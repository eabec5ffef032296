use Rattle.ncl_network.proofs.Terms.{Some, get, map, nat_cmp, take, ◌≡◌}
use Rattle.ncl_network.proofs.walk.Walk.look_up.Given as goal

abbrev pub invariant-loop-name : goal.invariant-loop-name
invariant-loop-name l =
    map Some l.found.items ≡ map (get nat_cmp l.self.signals) (take l.name-index l.names)
