use Rattle.ncl_template.proofs.Terms.{All, All-push, IsFormPin, Zero, get_or, subst, sym, take, take_all, take_more}
use Rattle.ncl_template.proofs.fitting.are_pins.Goals as goal

pub loop-pin-preserved : goal.loop-pin-preserved
loop-pin-preserved c =
    let P = IsFormPin c.args.inputs c.args.inner in
    let pins = c.args.pins.now in
    let i = c.loop-pin.pin-index in
    subst (All P) (sym (take_more pins i (Zero 0) c.loop-pin-test.true)) (All-push P (take i pins) (get_or pins i (Zero 0)) c.loop-pin.invariant (c.is_pin.ensures c.if-not-is_pin.false))

pub returns : goal.returns
returns c = λ yes. subst (All (IsFormPin c.args.inputs c.args.inner)) (take_all c.loop-pin.pin-index c.args.pins.now c.loop-pin-test.false) c.loop-pin.invariant
