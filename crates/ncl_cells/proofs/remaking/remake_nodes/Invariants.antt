use Rattle.ncl_cells.proofs.Terms.{AreRemade, length, ◌≡◌}
use Rattle.ncl_cells.proofs.remaking.remake_nodes.Given as goal

abbrev pub invariant-loop-place : goal.invariant-loop-place
invariant-loop-place l =
    (length l.images.items ≡ l.place) × AreRemade l.network l.pool.smalls.items l.images.items
