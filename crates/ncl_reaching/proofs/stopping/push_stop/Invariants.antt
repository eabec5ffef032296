use Rattle.ncl_reaching.proofs.Terms.{IsFor, length, meaning, ◌-◌, ◌^◌}
use Rattle.ncl_reaching.proofs.ToStop.{GoesOn}
use Rattle.ncl_reaching.proofs.stopping.push_stop.Given as goal

-- the run goes on
abbrev pub invariant-loop-items : goal.invariant-loop-items
invariant-loop-items l = IsFor l.pipeline l.state × GoesOn l.pipeline (meaning l.fn.state) (meaning l.state) l.fn.run.items l.run.items

abbrev pub decreases-loop-items : goal.decreases-loop-items
decreases-loop-items l = 2 ^ 64 - length l.run.items
