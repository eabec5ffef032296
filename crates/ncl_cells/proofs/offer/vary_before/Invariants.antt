use Rattle.ncl_cells.proofs.Terms.{All, VariesBefore, take}
use Rattle.ncl_cells.proofs.offer.vary_before.Given as goal

abbrev pub invariant-loop-signal : goal.invariant-loop-signal
invariant-loop-signal l = All (VariesBefore l.inputs l.place) (take l.signal-index l.signals)
