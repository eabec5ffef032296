use Rattle.ncl_match.proofs.Terms.{AreNeeded}
use Rattle.ncl_match.proofs.needed.mark_needed.Given as goal

-- the steps from the place on are looked at
abbrev pub invariant-loop-place : goal.invariant-loop-place
invariant-loop-place l = AreNeeded l.inputs l.steps l.root l.marks l.place
