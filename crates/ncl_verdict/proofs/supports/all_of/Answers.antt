use Rattle.ncl_verdict.proofs.Terms.{IsPart, arith, below_more, bit_or, get_or, mask_at}
use Rattle.ncl_verdict.proofs.Adding.{all-by-places}
use Rattle.ncl_verdict.proofs.MaskLaws.{part-along, part-left, part-right}
use Rattle.ncl_verdict.proofs.supports.all_of.Goals as goal

pub loop-place-preserved : goal.loop-place-preserved
loop-place-preserved c =
    let all = c.loop-place.all in
    let mask = mask_at c.args.masks.now (get_or c.args.places.now c.loop-place.place-index 0) in
    below_more _ _ (λ k lt. part-along (mask_at c.args.masks.now (get_or c.args.places.now k 0)) all (bit_or all mask) (c.loop-place.invariant k lt) (part-left all mask)) (part-right all mask)

pub returns : goal.returns
returns c = all-by-places (λ place. IsPart (mask_at c.args.masks.now place) c.loop-place.all) c.args.places.now 0 (λ k lt. c.loop-place.invariant k (omega (arith, lt, c.loop-place-test.false)))
