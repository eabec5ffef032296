use Rattle.ncl_sim.proofs.Terms.{Contains, Grows, NetId, take, items_at, ℕ, ◌<◌}
use Rattle.ncl_sim.proofs.touched.put_at_pins.Given as goal

abbrev pub invariant-loop-pin : goal.invariant-loop-pin
invariant-loop-pin l =
    ((count : ℕ) → l.number < count → Grows count l.initial.table l.table)
    × ((pin : NetId) → Contains (take l.pin-index l.pins) pin → Contains (items_at l.table pin.0) l.number)
