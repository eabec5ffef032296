use Rattle.ncl_merge.proofs.Terms.{filter, is_needed, length, take, ◌≡◌, ◌≤◌}
use Rattle.ncl_merge.proofs.needed.needed_among.Given as goal

abbrev pub invariant-loop-net : goal.invariant-loop-net
invariant-loop-net l = (l.needed.items ≡ filter (is_needed l.joint.driver l.joint.reader l.nets l.words) (take l.net-index l.nets)) × (length l.needed.items ≤ l.net-index)
