use Rattle.ncl_stage.proofs.Terms.{ap, get_or, with_bits, ℕ, ◌∙◌}
use Rattle.ncl_stage.proofs.WalkLaws.{with_bits-pair}
use Rattle.ncl_stage.proofs.walk.Walk.from_pairs.Goals as goal

pub loop-pair-preserved : goal.loop-pair-preserved
loop-pair-preserved c = record {
  idle = c.in_ok-from-2.ensures.idle;
  done = c.in_ok-from-2.ensures.done;
  found = λ met are.
      let o : ℕ × ℕ = get_or c.args.pairs.now c.loop-pair.pair-index (0, 0) in
      c.in_ok-from-2.ensures.found met are
      ∙ ap (λ l. with_bits l (met o.1)) (c.in_ok-from.ensures.found met are ∙ ap (λ l. with_bits l (met o.0)) (c.loop-pair.invariant.found met are))
      ∙ with_bits-pair met c.args.pairs.now c.loop-pair.pair-index (0, 0) c.loop-pair-test.true;
}
