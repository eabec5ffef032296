use Rattle.ncl_hazard.proofs.Terms.{Fire, IsFor, enabled, meaning, take, true, ◌++◌, ◌≡◌}
use Rattle.ncl_hazard.proofs.Tries.{HasTried}
use Rattle.ncl_hazard.proofs.trying.losing_run.Given as goal

-- all of the first and the first of the others were tried, and the cell is enabled still
abbrev pub invariant-loop-next : goal.invariant-loop-next
invariant-loop-next l =
    IsFor l.pipeline l.state × HasTried l.pipeline (meaning l.fn.state) (meaning l.state) (l.coming ++ take l.next-index l.going) l.run.items
    × (enabled l.pipeline (meaning l.state) (Fire l.cell) ≡ true)
