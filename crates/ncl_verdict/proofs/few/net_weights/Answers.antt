use Rattle.ncl_verdict.proofs.Terms.{Covers, get_or, subst, sum_by, sum_by_more, sym, take, weight_of}
use Rattle.ncl_verdict.proofs.Adding.{covers-more}
use Rattle.ncl_verdict.proofs.few.net_weights.Goals as goal

pub loop-mask-preserved : goal.loop-mask-preserved
loop-mask-preserved c =
    let masks = c.args.masks.now in
    let i = c.loop-mask.mask-index in
    subst (λ n. Covers n c.saturating_add-sum.result) (sym (sum_by_more weight_of masks i 0 c.loop-mask-test.true))
    (covers-more (sum_by weight_of (take i masks)) (weight_of (get_or masks i 0)) c.loop-mask.sum c.weight.result c.saturating_add-sum.result c.loop-mask.invariant c.weight.ensures c.saturating_add-sum.ensures)
