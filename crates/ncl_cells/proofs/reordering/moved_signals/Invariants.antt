use Rattle.ncl_cells.proofs.Terms.{AllZip, IsMoved, take}
use Rattle.ncl_cells.proofs.reordering.moved_signals.Given as goal

abbrev pub invariant-loop-signal : goal.invariant-loop-signal
invariant-loop-signal l = AllZip (IsMoved l.places) (take l.signal-index l.signals) l.found.items
