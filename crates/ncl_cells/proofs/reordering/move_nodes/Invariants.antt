use Rattle.ncl_cells.specs.Reordered.{AreMoved}
use Rattle.ncl_cells.proofs.reordering.move_nodes.Given as goal

abbrev pub invariant-loop-place : goal.invariant-loop-place
invariant-loop-place l = AreMoved l.network l.nodes.items l.places
