use Rattle.ncl_network.proofs.Terms.{map, select, take, ◌≡◌}
use Rattle.ncl_network.proofs.select.select_rows.Given as goal

abbrev pub invariant-loop-place : goal.invariant-loop-place
invariant-loop-place l =
    l.kept.items ≡ map (select l.mask) (select (take l.place l.live) (take l.place l.rows))
