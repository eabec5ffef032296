use Rattle.ncl_match.proofs.Terms.{AreMarks, length}
use Rattle.ncl_match.proofs.marks.mark_reaching.Given as goal

-- the cells from the place on are looked at
abbrev pub invariant-loop-place : goal.invariant-loop-place
invariant-loop-place l = AreMarks l.plan (length l.fn.marks) l.fn.root.0 l.marks l.place
