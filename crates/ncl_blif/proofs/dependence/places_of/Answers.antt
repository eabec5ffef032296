use Rattle.ncl_blif.proofs.Terms.{ap, arith, common_steps, filter_map, filter_map-more, get, nat_cmp, take_all, ◌∙◌}
use Rattle.ncl_blif.proofs.dependence.places_of.Goals as goal
use Rattle.ncl_blif.proofs.dependence.places_of.Goals.{in-Some+in_ok-push, in_default}

pub loop-signal-preserved : goal.loop-signal-preserved
loop-signal-preserved c =
    let more = filter_map-more (get nat_cmp c.args.places.now) c.args.signals.now c.loop-signal.signal-index 0 c.loop-signal-test.true in
    elim c.match-get.branch [ in-Some+in_ok-push w ↦ grind (arith, common_steps) | in_default w ↦ grind (arith, common_steps) ]

pub returns : goal.returns
returns c = c.from_vec.ensures ∙ c.loop-signal.invariant ∙ ap (filter_map (get nat_cmp c.args.places.now)) (take_all c.loop-signal.signal-index c.args.signals.now c.loop-signal-test.false)
