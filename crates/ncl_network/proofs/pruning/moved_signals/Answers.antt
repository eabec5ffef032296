use Rattle.ncl_network.proofs.Terms.{[], ap, arith, get_or, map, map_more, moved_signal, sym, take_all, ◌++◌, ◌∙◌, ◌∷◌}
use Rattle.ncl_network.proofs.pruning.moved_signals.Goals as goal

pub moved-requires : goal.moved-requires
moved-requires c = c.requires c.loop-signal.signal-index _ c.loop-signal-test.true

pub loop-signal-preserved : goal.loop-signal-preserved
loop-signal-preserved c =
    c.in_ok-push.ensures.items ∙ (λ i. c.loop-signal.invariant i ++ c.moved.ensures i ∷ [])
    ∙ sym (map_more (moved_signal (λ k. get_or c.args.places.now k 0)) c.args.signals.now c.loop-signal.signal-index _ c.loop-signal-test.true)

pub returns : goal.returns
returns c =
    c.from_vec.ensures ∙ c.loop-signal.invariant
    ∙ ap (map (moved_signal (λ k. get_or c.args.places.now k 0))) (take_all c.loop-signal.signal-index c.args.signals.now (omega (arith, c.loop-signal-test.false)))
