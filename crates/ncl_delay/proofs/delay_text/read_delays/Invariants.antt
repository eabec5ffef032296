use Rattle.ncl_delay.specs.DelayText.{cell_names}
use Rattle.ncl_delay.proofs.Told.{told_of}
use Rattle.ncl_delay.proofs.DelayLines.{AreStated}
use Rattle.ncl_delay.proofs.delay_text.read_delays.Given as goal

abbrev pub invariant-loop-place : goal.invariant-loop-place
invariant-loop-place l = AreStated (cell_names l.netlist) (told_of l.yielded) l.delays
