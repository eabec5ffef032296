use Rattle.ncl_template.proofs.Terms.{ap, arith, length, length-map, pin_bit, set_of, ◌∙◌}
use Rattle.ncl_template.proofs.PinValues.{values-more, values-room, values-whole}
use Rattle.ncl_template.proofs.form.is_set.Goals as goal

pub push-requires : goal.push-requires
push-requires c =
    (omega arith, values-room (pin_bit c.args.word.now c.args.null c.args.inner.now) c.args.gate.now.pins.items _ c.loop-pin.pin-index _ c.as_slice-pin-items.ensures.value c.loop-pin-test.true c.requires.few c.loop-pin.invariant)

pub loop-pin-preserved : goal.loop-pin-preserved
loop-pin-preserved c =
    values-more (pin_bit c.args.word.now c.args.null c.args.inner.now) c.args.gate.now.pins.items _ c.loop-pin.pin-index _ _ _ _ c.as_slice-pin-items.ensures.value c.loop-pin-test.true c.loop-pin.invariant c.pin_bit.ensures c.push.ensures.items

pub set-requires : goal.set-requires
set-requires c =
    let pins = c.args.gate.now.pins.items in
    let f = pin_bit c.args.word.now c.args.null c.args.inner.now in
    ap length (c.deref.ensures.0 ∙ values-whole f pins _ c.loop-pin.pin-index _ c.as_slice-pin-items.ensures.value c.loop-pin-test.false c.loop-pin.invariant) ∙ length-map pins f ∙ c.requires.arity

pub returns : goal.returns
returns c =
    c.set.ensures ∙ ap (set_of c.args.gate.now.kind) (c.deref.ensures.0 ∙ values-whole (pin_bit c.args.word.now c.args.null c.args.inner.now) c.args.gate.now.pins.items _ c.loop-pin.pin-index _ c.as_slice-pin-items.ensures.value c.loop-pin-test.false c.loop-pin.invariant)
