use Rattle.ncl_cells.proofs.Terms.{All, All-push, Input, Signal, VariesBefore, false, get_or, subst, sym, take, take_all, take_more}
use Rattle.ncl_cells.proofs.offer.vary_before.Goals as goal

pub loop-signal-preserved : goal.loop-signal-preserved
loop-signal-preserved c =
    let P = VariesBefore c.args.inputs c.args.place in
    let signals = c.args.signals.now in
    let i = c.loop-signal.signal-index in
    let none : Signal = record { from = Input 0; inverted = false } in
    subst (All P) (sym (take_more signals i none c.loop-signal-test.true)) (All-push P (take i signals) (get_or signals i none) c.loop-signal.invariant (c.varies_before.ensures c.if-not-varies_before.false))

pub returns : goal.returns
returns c = λ yes. subst (All (VariesBefore c.args.inputs c.args.place)) (take_all c.loop-signal.signal-index c.args.signals.now c.loop-signal-test.false) c.loop-signal.invariant
