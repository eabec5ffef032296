use Rattle.ncl_verdict.proofs.Terms.{Covers, List, ap, bit_or, both, eq-eqb, fronts, get_or, is_part, lost_data, ne_eqb, subst, sum_by, sym, take, take_all, true, union, weight_lost, weight_of, ℕ, ◌+◌, ◌∙◌, ◌≡◌}
use Rattle.ncl_verdict.proofs.LostLaws.{kept-more, kept-weight, left-out, union-more}
use Rattle.ncl_verdict.proofs.few.lost_weight.Goals as goal

pub loop-pair-preserved : goal.loop-pair-preserved
loop-pair-preserved c =
    let masks : List ℕ = c.args.masks.now in
    let outputs : List (ℕ × ℕ) = c.args.outputs.now in
    let lost = c.args.lost in
    let i = c.loop-pair.pair-index in
    let own : ℕ = both masks (get_or outputs i (0, 0)) in
    let part : is_part own lost ≡ true = eq-eqb _ _ c.if-data-lost.false in
    record {
      all = ap (λ n. bit_or n own) c.loop-pair.invariant.all
          ∙ sym (ap union (kept-more masks lost outputs i (0, 0) c.loop-pair-test.true part) ∙ union-more (lost_data masks lost (take i outputs)) own);
      sum = kept-weight masks lost outputs i (0, 0) c.loop-pair-test.true part c.loop-pair.all c.loop-pair.sum c.weight.result c.weight-in-loop-pair.result c.saturating_add.result c.saturating_add-sum.result
          c.loop-pair.invariant.all c.loop-pair.invariant.sum c.weight.ensures c.saturating_add.ensures c.weight-in-loop-pair.ensures c.saturating_add-sum.ensures;
    }

pub bounds-masks-pair : goal.bounds-masks-pair
bounds-masks-pair c = (c.requires c.loop-pair.pair-index (0, 0) c.loop-pair-test.true).0

pub bounds-masks-pair-in-loop-pair : goal.bounds-masks-pair-in-loop-pair
bounds-masks-pair-in-loop-pair c = (c.requires c.loop-pair.pair-index (0, 0) c.loop-pair-test.true).1

pub loop-pair-preserved-then-data-lost : goal.loop-pair-preserved-then-data-lost
loop-pair-preserved-then-data-lost c =
    let lost = c.args.lost in
    let same = left-out c.args.masks.now lost c.args.outputs.now c.loop-pair.pair-index (0, 0) c.loop-pair-test.true (ne_eqb _ _ c.if-data-lost.true) in
    record {
      all = c.loop-pair.invariant.all ∙ ap union (sym same);
      sum = subst (λ kept. Covers (weight_of lost + sum_by weight_of kept + sum_by (λ front. weight_of (union front)) (fronts kept)) c.loop-pair.sum) (sym same) c.loop-pair.invariant.sum;
    }

pub returns : goal.returns
returns c =
    subst (λ outputs. Covers (weight_lost c.args.masks.now outputs c.args.lost) c.loop-pair.sum) (take_all c.loop-pair.pair-index c.args.outputs.now c.loop-pair-test.false) c.loop-pair.invariant.sum
