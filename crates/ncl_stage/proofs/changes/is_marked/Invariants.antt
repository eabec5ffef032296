use Rattle.ncl_stage.proofs.Terms.{false, get_or, list_any, take, true, ◌≡◌}
use Rattle.ncl_stage.proofs.changes.is_marked.Given as goal

-- no mark stands at the places so far
abbrev pub invariant-loop-place : goal.invariant-loop-place
invariant-loop-place l = list_any (λ place. get_or l.marks place true) (take l.place-index l.places) ≡ false
