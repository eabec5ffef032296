use Rattle.ncl_cells.proofs.Terms.{AllZip, AllZip-push, Input, IsMoved, Signal, [], false, get_or, subst, sym, take, take_more, ◌++◌, ◌+◌, ◌∷◌}
use Rattle.ncl_cells.proofs.reordering.moved_signals.Goals as goal

pub loop-signal-preserved : goal.loop-signal-preserved
loop-signal-preserved c =
    let i = c.loop-signal.signal-index in
    let signals = c.args.signals.now in
    let none : Signal = record { from = Input 0; inverted = false } in
    subst (AllZip (IsMoved c.args.places.now) (take (i + 1) signals)) (sym c.in_ok-push.ensures.items)
    (subst (λ done. AllZip (IsMoved c.args.places.now) done (c.loop-signal.found.items ++ c.in_ok-moved.moved ∷ [])) (sym (take_more signals i none c.loop-signal-test.true))
    (AllZip-push (IsMoved c.args.places.now) (take i signals) c.loop-signal.found.items (get_or signals i none) c.in_ok-moved.moved c.loop-signal.invariant c.in_ok-moved.ensures))
