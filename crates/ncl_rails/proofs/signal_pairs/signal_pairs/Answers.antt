use Rattle.ncl_rails.proofs.Terms.{ap, map, signal_pair, take_all, ◌∙◌}
use Rattle.ncl_base.proofs.Growing.{map_push}
use Rattle.ncl_rails.proofs.signal_pairs.signal_pairs.Goals as goal

pub signal_pair-requires : goal.signal_pair-requires
signal_pair-requires c = c.requires c.loop-signal.signal-index _ c.loop-signal-test.true

pub loop-signal-preserved : goal.loop-signal-preserved
loop-signal-preserved c =
    map_push (signal_pair c.args.inputs.now c.args.pairs.now) c.args.signals.now c.loop-signal.signal-index _ _ _ _ c.loop-signal-test.true c.loop-signal.invariant c.signal_pair.ensures c.in_ok-push.ensures.items

pub returns : goal.returns
returns c = c.loop-signal.invariant ∙ ap (map (signal_pair c.args.inputs.now c.args.pairs.now)) (take_all c.loop-signal.signal-index c.args.signals.now c.loop-signal-test.false)
