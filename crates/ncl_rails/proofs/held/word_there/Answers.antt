use Rattle.ncl_rails.proofs.Terms.{Input, [], arith, false, map_more, signal_in, sym, ◌++◌, ◌∙◌, ◌∷◌}
use Rattle.ncl_rails.proofs.held.word_there.Goals as goal

pub loop-signal-preserved : goal.loop-signal-preserved
loop-signal-preserved c = record {
  bits = λ value has.
      map_more (signal_in value) c.args.ins.now c.loop-signal.signal-index (record { from = Input 0; inverted = false }) c.loop-signal-test.true
      ∙ (λ j. c.loop-signal.invariant.bits value has j ++ c.in_ok-bit.ensures value has j ∷ [])
      ∙ sym c.push.ensures.items;
  count = omega (arith, c.push.ensures.len, c.loop-signal.invariant.count);
}
