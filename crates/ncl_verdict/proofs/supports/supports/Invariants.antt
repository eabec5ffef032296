use Rattle.ncl_verdict.proofs.Terms.{AreMasks, length, ◌≡◌}
use Rattle.ncl_verdict.proofs.supports.supports.Given as goal

-- the masks of the nets at the places so far
abbrev pub invariant-loop-place : goal.invariant-loop-place
invariant-loop-place l = record {
  many : length l.masks.items ≡ l.place;
  masks : AreMasks (length l.stage.inputs) l.base.wiring l.masks.items;
}
