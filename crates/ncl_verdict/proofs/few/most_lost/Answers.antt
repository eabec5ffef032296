use Rattle.ncl_verdict.proofs.Terms.{Covers, below_more, lost_mask, subst, weight_lost}
use Rattle.ncl_verdict.proofs.Adding.{covers-larger}
use Rattle.ncl_verdict.proofs.few.most_lost.Goals as goal

pub loop-place-preserved : goal.loop-place-preserved
loop-place-preserved c =
    below_more _ _
    (λ place lt. covers-larger (weight_lost c.args.masks.now c.args.outputs.now (lost_mask c.args.bits c.args.reaches.now place)) c.loop-place.most c.greater-most.result (c.loop-place.invariant place lt) c.greater-most.ensures.first)
    (covers-larger (weight_lost c.args.masks.now c.args.outputs.now (lost_mask c.args.bits c.args.reaches.now c.loop-place.place)) c.lost_weight.result c.greater-most.result
    (subst (λ m. Covers (weight_lost c.args.masks.now c.args.outputs.now m) c.lost_weight.result) c.lost.ensures c.lost_weight.ensures) c.greater-most.ensures.second)
