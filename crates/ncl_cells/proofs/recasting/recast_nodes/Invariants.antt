use Rattle.ncl_cells.proofs.Terms.{AreRecast, length, ◌≡◌}
use Rattle.ncl_cells.proofs.recasting.recast_nodes.Given as goal

abbrev pub invariant-loop-place : goal.invariant-loop-place
invariant-loop-place l = (length l.nodes.items ≡ l.place) × AreRecast l.network l.nodes.items
