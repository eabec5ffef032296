use Rattle.ncl_template.proofs.Terms.{AreInner, ap, drop, drop_more, subst, sym, ◌+◌, ◌∙◌, ◌∷◌, ◌≡◌}
use Rattle.ncl_template.proofs.fitting.are_inner.Goals as goal

pub loop-place-preserved : goal.loop-place-preserved
loop-place-preserved c = λ rest.
    let i = c.loop-place.place in
    let gate = c.index-inner-place.result in
    let left = drop (i + 1) c.args.inner.now in
    let step : drop i c.args.inner.now ≡ gate ∷ left = drop_more c.args.inner.now i gate c.loop-place-test.true ∙ ap (λ g. g ∷ left) (sym c.index-inner-place.is) in
    c.loop-place.invariant (subst (AreInner c.args.inputs i) (sym step) (c.is_gate.ensures c.if-not-is_gate.false, rest))
