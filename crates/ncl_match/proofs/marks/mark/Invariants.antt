use Rattle.ncl_match.proofs.Terms.{is_marked, is_on, take, ℕ, ◌||◌, ◌≡◌}
use Rattle.ncl_match.proofs.marks.mark.Given as goal

-- the nets so far are marked
abbrev pub invariant-loop-net : goal.invariant-loop-net
invariant-loop-net l = (n : ℕ) → is_marked l.marks n ≡ (is_marked l.initial.marks n || is_on (take l.net-index l.nets) n)
