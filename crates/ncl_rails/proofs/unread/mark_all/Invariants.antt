use Rattle.ncl_rails.proofs.Terms.{Node, false, is_among, list_any, slice_index_or, take, ℕ, ◌||◌, ◌≡◌}
use Rattle.ncl_rails.proofs.unread.mark_all.Given as goal

abbrev pub invariant-loop-node : goal.invariant-loop-node
invariant-loop-node l =
    (i : ℕ) → slice_index_or l.read i false ≡ (slice_index_or l.initial.read i false || list_any (λ (node : Node). is_among node.ins i) (take l.node-index l.nodes))
