use Rattle.ncl_verdict.proofs.Terms.{IsPart, arith, below_more, bit_or, get_or, length, length-set, mask_at, subst, sym, ◌<◌, ◌∙◌}
use Rattle.ncl_verdict.proofs.Adding.{all-by-places, with-grown, with-has, with-other, with_mask}
use Rattle.ncl_verdict.proofs.MaskLaws.{part-along}
use Rattle.ncl_verdict.proofs.supports.add_at.Goals as goal

pub loop-place-preserved : goal.loop-place-preserved
loop-place-preserved c =
    let masks = c.loop-place.masks in
    let mask = c.args.mask in
    let place = get_or c.args.places.now c.loop-place.place-index 0 in
    let within : place < length masks = subst (λ n. place < n) (sym c.loop-place.invariant.many) (c.requires c.loop-place.place-index 0 c.loop-place-test.true) in
    record {
      many = length-set masks place (bit_or (mask_at masks place) mask) ∙ c.loop-place.invariant.many;
      grown = λ other. part-along (mask_at c.args.masks.now other) (mask_at masks other) (mask_at (with_mask masks place mask) other) (c.loop-place.invariant.grown other) (with-grown masks place mask within other);
      added = below_more _ _
          (λ k lt. part-along mask (mask_at masks (get_or c.args.places.now k 0)) (mask_at (with_mask masks place mask) (get_or c.args.places.now k 0)) (c.loop-place.invariant.added k lt) (with-grown masks place mask within (get_or c.args.places.now k 0)))
          (with-has masks place mask within);
      others = λ from below other after.
          let before : place < from = below c.loop-place.place-index 0 c.loop-place-test.true in
          with-other masks place mask other (λ same. omega (arith, before, after, same)) ∙ c.loop-place.invariant.others from below other after;
    }

pub returns-clause-added : goal.returns-clause-added
returns-clause-added c = all-by-places (λ place. IsPart c.args.mask (mask_at c.loop-place.masks place)) c.args.places.now 0 (λ k lt. c.loop-place.invariant.added k (omega (arith, lt, c.loop-place-test.false)))
