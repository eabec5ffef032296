use Rattle.ncl_cell_rules.proofs.Terms.{NetId, ap, arith, common_steps, driver_at, filter_map, filter_map-more, take_all, ◌∙◌}
use Rattle.ncl_cell_rules.proofs.PinNumbers.{no_net}
use Rattle.ncl_cell_rules.proofs.gate_graph.drivers_of.Goals as goal
use Rattle.ncl_cell_rules.proofs.gate_graph.drivers_of.Goals.{in-Some+in_ok-push, in_default}

pub loop-net-preserved : goal.loop-net-preserved
loop-net-preserved c =
    let more = filter_map-more (λ (net : NetId). driver_at c.args.drivers.now net.0) c.args.nets.now c.loop-net.net-index no_net c.loop-net-test.true in
    elim c.match-drivers-net.branch [ in-Some+in_ok-push w ↦ grind (arith, common_steps) | in_default w ↦ grind (arith, common_steps) ]

pub bounds : goal.bounds
bounds c = c.requires c.loop-net.net-index no_net c.loop-net-test.true

pub bounds-drivers-net : goal.bounds-drivers-net
bounds-drivers-net c = c.requires c.loop-net.net-index no_net c.loop-net-test.true

pub returns : goal.returns
returns c = c.loop-net.invariant ∙ ap (filter_map (λ (net : NetId). driver_at c.args.drivers.now net.0)) (take_all c.loop-net.net-index c.args.nets.now c.loop-net-test.false)
