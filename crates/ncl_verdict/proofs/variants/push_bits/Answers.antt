use Rattle.ncl_verdict.proofs.Terms.{Bit, [], ap, append_assoc, below, map, map-append, sym, ◌++◌, ◌∙◌, ◌∷◌}
use Rattle.ncl_verdict.proofs.FileOrder.{below-more}
use Rattle.ncl_verdict.proofs.variants.push_bits.Goals as goal

pub loop-bit-preserved : goal.loop-bit-preserved
loop-bit-preserved c =
    let old = c.args.variants.now.items in
    let bit = c.loop-bit.bit in
    c.in_ok-push.ensures.items
    ∙ ap (λ items. items ++ Bit bit ∷ []) c.loop-bit.invariant
    ∙ append_assoc old (map Bit (below bit)) (Bit bit ∷ [])
    ∙ ap (λ items. old ++ items) (sym (ap (map Bit) (below-more bit) ∙ map-append Bit (below bit) (bit ∷ [])))
