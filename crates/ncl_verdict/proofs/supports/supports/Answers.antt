use Rattle.ncl_verdict.proofs.Terms.{AreMasks, IsSupport, List, StageData, WiringData, [], ap, arith, length, length-append, nets_of, subst, sym, ℕ, ◌+◌, ◌<◌, ◌∙◌, ◌∷◌}
use Rattle.ncl_verdict.proofs.Supporting.{masks-next}
use Rattle.ncl_verdict.proofs.supports.supports.Goals as goal

pub support-mask-requires-clause-place : goal.support-mask-requires-clause-place
support-mask-requires-clause-place c = omega (arith, c.loop-place-test.true, ap length c.refs-count.ensures.refs, c.refs-count.ensures.many, ap length c.requires.nets)

pub loop-place-preserved : goal.loop-place-preserved
loop-place-preserved c =
    let s : StageData = c.args.stage.now in
    let w : WiringData = c.args.base.now.wiring in
    let masks = c.loop-place.masks.items in
    let mask = c.support-mask.result in
    let within : length masks < length (nets_of s.inputs s.cells) = omega (arith, c.loop-place.invariant.many, c.loop-place-test.true, ap length c.refs-count.ensures.refs, c.refs-count.ensures.many, ap length c.requires.nets) in
    record {
      many = ap length c.in_ok-push.ensures.items ∙ length-append masks (mask ∷ []) ∙ ap (λ n. n + 1) c.loop-place.invariant.many;
      masks = subst (AreMasks (length s.inputs) w) (sym c.in_ok-push.ensures.items)
          (masks-next s c.facts.ensures w c.requires masks mask within c.loop-place.invariant.masks
          (subst (λ p. IsSupport (length s.inputs) w masks p mask) (sym c.loop-place.invariant.many)
          (subst (λ (l : List ℕ). IsSupport (length s.inputs) w l c.loop-place.place mask) c.as_slice.ensures.value c.support-mask.ensures)));
    }
