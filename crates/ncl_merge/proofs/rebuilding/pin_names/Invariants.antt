use Rattle.ncl_merge.proofs.Terms.{NetId, [], map, slice_index_or, take, ◌≡◌}
use Rattle.ncl_merge.proofs.rebuilding.pin_names.Given as goal

-- the names of the pins so far
abbrev pub invariant-loop-net : goal.invariant-loop-net
invariant-loop-net l = l.names.items ≡ map (λ (net : NetId). slice_index_or l.nets net.0 []) (take l.net-index l.ins)
