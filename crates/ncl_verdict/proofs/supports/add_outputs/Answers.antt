use Rattle.ncl_verdict.proofs.Terms.{IsPart, List, ap, arith, below_more, both, get_or, length, mask_at, subst, sym, ℕ, ◌<◌, ◌∙◌}
use Rattle.ncl_verdict.proofs.Adding.{IsShown, all-by-places, both-grown, both-have, both-long, shown-kept, with_both}
use Rattle.ncl_verdict.proofs.MaskLaws.{part-along}
use Rattle.ncl_verdict.proofs.supports.add_outputs.Goals as goal

pub loop-pair-init : goal.loop-pair-init
loop-pair-init c = record {
  many = ap length c.requires.own;
  own = λ place. subst (λ l. IsPart (mask_at c.args.masks.now place) (mask_at l place)) (sym c.requires.own) (λ p on. on);
  outputs = λ k lt. absurd (omega (arith, lt));
}

pub loop-pair-preserved : goal.loop-pair-preserved
loop-pair-preserved c =
    let masks : List ℕ = c.args.masks.now in
    let old : List ℕ = c.loop-pair.reaches in
    let outputs : List (ℕ × ℕ) = c.args.outputs.now in
    let i = c.loop-pair.pair-index in
    let pair : ℕ × ℕ = get_or outputs i (0, 0) in
    let within = c.requires.outputs i (0, 0) c.loop-pair-test.true in
    let first : pair.0 < length old = subst (λ n. pair.0 < n) (sym c.loop-pair.invariant.many) within.0 in
    let second : pair.1 < length old = subst (λ n. pair.1 < n) (sym c.loop-pair.invariant.many) within.1 in
    let new : List ℕ = with_both old pair (both masks pair) in
    let grown = both-grown old pair (both masks pair) first second in
    record {
      many = both-long old pair (both masks pair) ∙ c.loop-pair.invariant.many;
      own = λ place. part-along (mask_at masks place) (mask_at old place) (mask_at new place) (c.loop-pair.invariant.own place) (grown place);
      outputs = below_more _ _ (λ k lt. shown-kept masks old new (get_or outputs k (0, 0)) grown (c.loop-pair.invariant.outputs k lt)) (both-have old pair (both masks pair) first second);
    }

pub returns-clause-outputs : goal.returns-clause-outputs
returns-clause-outputs c = all-by-places (IsShown c.args.masks.now c.loop-pair.reaches) c.args.outputs.now (0, 0) (λ k lt. c.loop-pair.invariant.outputs k (omega (arith, lt, c.loop-pair-test.false)))
