use Rattle.ncl_network.proofs.Terms.{length, map, moved_node, select, slice_index_or, take, ◌≡◌}
use Rattle.ncl_network.proofs.pruning.kept_part.Given as goal

abbrev pub invariant-loop-node : goal.invariant-loop-node
invariant-loop-node l =
    (l.place ≡ length l.yielded)
    × (l.part.items ≡ map (moved_node (λ k. slice_index_or l.places k 0)) (select (take l.place l.kept) l.yielded))
