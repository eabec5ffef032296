use Rattle.ncl_plans.proofs.Terms.{Input, [], false, map_more, signal_in, sym, ◌++◌, ◌∙◌, ◌∷◌}
use Rattle.ncl_plans.proofs.cone.signal_bits.Goals as goal

pub loop-signal-preserved : goal.loop-signal-preserved
loop-signal-preserved c = λ value known.
    map_more (signal_in value) c.args.signals.now c.loop-signal.signal-index (record { from = Input 0; inverted = false }) c.loop-signal-test.true
    ∙ (λ j. c.loop-signal.invariant value known j ++ c.in_ok-bit.ensures value known j ∷ [])
    ∙ sym c.in_ok-push.ensures.items
