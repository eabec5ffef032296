use Rattle.ncl_cells.proofs.Terms.{AreImagesOf, take}
use Rattle.ncl_cells.proofs.remaking.images_of.Given as goal

abbrev pub invariant-loop-signal : goal.invariant-loop-signal
invariant-loop-signal l = AreImagesOf l.inputs l.images (take l.signal-index l.signals) l.found.items
