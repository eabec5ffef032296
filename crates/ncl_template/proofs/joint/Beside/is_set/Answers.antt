use Rattle.ncl_template.proofs.Terms.{ap, arith, length, length-map, joint_pin, set_of, ◌∙◌}
use Rattle.ncl_template.proofs.PinValues.{values-more, values-room, values-whole}
use Rattle.ncl_template.proofs.joint.Beside.is_set.Goals as goal

pub push-requires : goal.push-requires
push-requires c =
    (omega arith, values-room (joint_pin c.args.self.now.last.now.zero c.args.self.now.last.now.one c.args.word.now c.args.null) c.args.self.now.gate.now.pins.items _ c.loop-pin.pin-index _ c.as_slice-pin-items.ensures.value c.loop-pin-test.true c.requires.gate_fits.few c.loop-pin.invariant)

pub loop-pin-preserved : goal.loop-pin-preserved
loop-pin-preserved c =
    values-more (joint_pin c.args.self.now.last.now.zero c.args.self.now.last.now.one c.args.word.now c.args.null) c.args.self.now.gate.now.pins.items _ c.loop-pin.pin-index _ _ _ _ c.as_slice-pin-items.ensures.value c.loop-pin-test.true c.loop-pin.invariant c.pin_bit.ensures c.push.ensures.items

pub set-requires : goal.set-requires
set-requires c =
    let pins = c.args.self.now.gate.now.pins.items in
    let f = joint_pin c.args.self.now.last.now.zero c.args.self.now.last.now.one c.args.word.now c.args.null in
    ap length (c.deref.ensures.0 ∙ values-whole f pins _ c.loop-pin.pin-index _ c.as_slice-pin-items.ensures.value c.loop-pin-test.false c.loop-pin.invariant) ∙ length-map pins f ∙ c.requires.gate_fits.arity

pub returns : goal.returns
returns c =
    c.set.ensures ∙ ap (set_of c.args.self.now.gate.now.kind) (c.deref.ensures.0 ∙ values-whole (joint_pin c.args.self.now.last.now.zero c.args.self.now.last.now.one c.args.word.now c.args.null) c.args.self.now.gate.now.pins.items _ c.loop-pin.pin-index _ c.as_slice-pin-items.ensures.value c.loop-pin-test.false c.loop-pin.invariant)
