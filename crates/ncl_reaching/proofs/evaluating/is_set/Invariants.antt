use Rattle.ncl_reaching.proofs.Terms.{pin_values, take, value_in, ◌≡◌}
use Rattle.ncl_reaching.proofs.evaluating.is_set.Given as goal

-- the pins so far have their values
abbrev pub invariant-loop-net : goal.invariant-loop-net
invariant-loop-net l = l.pins.items ≡ pin_values (value_in l.values) (take l.net-index l.gate.ins.items)
