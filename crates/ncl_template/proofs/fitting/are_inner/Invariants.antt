use Rattle.ncl_template.proofs.Terms.{AreInner, drop}
use Rattle.ncl_template.proofs.fitting.are_inner.Given as goal

-- with those that are left all are
abbrev pub invariant-loop-place : goal.invariant-loop-place
invariant-loop-place l = AreInner l.inputs l.place (drop l.place l.inner) → AreInner l.inputs 0 l.inner
