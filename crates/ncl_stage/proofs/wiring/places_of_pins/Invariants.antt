use Rattle.ncl_stage.proofs.Terms.{NetId, map, place_in, take, ◌≡◌}
use Rattle.ncl_stage.proofs.wiring.places_of_pins.Given as goal

-- the places of the pins so far
abbrev pub invariant-loop-net : goal.invariant-loop-net
invariant-loop-net l = l.places.items ≡ map (λ (net : NetId). place_in l.nets.keys net.0) (take l.net-index l.cell.ins.items)
