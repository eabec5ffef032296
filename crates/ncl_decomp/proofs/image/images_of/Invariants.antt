use Rattle.ncl_decomp.proofs.Terms.{image_of, map, take, ◌≡◌}
use Rattle.ncl_decomp.proofs.image.images_of.Given as goal

abbrev pub invariant-loop-signal : goal.invariant-loop-signal
invariant-loop-signal l = l.found.items ≡ map (image_of l.images) (take l.signal-index l.signals)
