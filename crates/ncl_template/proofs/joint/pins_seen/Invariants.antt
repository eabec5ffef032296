use Rattle.ncl_template.proofs.Terms.{All, IsFormPin, [], length, map, pin_net, take, ◌≡◌}
use Rattle.ncl_template.proofs.joint.pins_seen.Given as goal

-- the pins of the nets so far
abbrev pub invariant-loop-net : goal.invariant-loop-net
invariant-loop-net l = record {
  nets : map (pin_net l.ins []) l.pins.items ≡ take l.net-index l.nets;
  pins : All (IsFormPin (length l.ins) 0) l.pins.items;
  count : length l.pins.items ≡ l.net-index;
}
