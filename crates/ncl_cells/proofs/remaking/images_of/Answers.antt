use Rattle.ncl_cells.proofs.Terms.{AreImagesOf, Input, Signal, false, get_or, subst, sym, take, take_more}
use Rattle.ncl_cells.proofs.Remade.{AreImagesOf-push}
use Rattle.ncl_cells.proofs.remaking.images_of.Goals as goal

pub loop-signal-preserved : goal.loop-signal-preserved
loop-signal-preserved c =
    let i = c.loop-signal.signal-index in
    let signals = c.args.signals.now in
    let none : Signal = record { from = Input 0; inverted = false } in
    subst (λ done. AreImagesOf c.args.inputs c.args.images.now done c.push.new.self.items) (sym (take_more signals i none c.loop-signal-test.true))
    (AreImagesOf-push c.args.inputs c.args.images.now (take i signals) c.loop-signal.found.items (get_or signals i none) c.in_ok-image.image c.push.new.self.items c.loop-signal.invariant c.in_ok-image.ensures c.in_ok-push.ensures.items)
