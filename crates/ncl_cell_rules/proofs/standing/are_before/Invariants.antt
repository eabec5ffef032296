use Rattle.ncl_cell_rules.proofs.Terms.{All, IsDrivenBefore, take}
use Rattle.ncl_cell_rules.proofs.standing.are_before.Given as goal

-- the nets so far are driven before the place
abbrev pub invariant-loop-net : goal.invariant-loop-net
invariant-loop-net l = All (IsDrivenBefore l.drivers l.place) (take l.net-index l.nets)
