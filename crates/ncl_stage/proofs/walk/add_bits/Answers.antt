use Rattle.ncl_stage.proofs.Terms.{ap, with_bit, ◌∙◌}
use Rattle.ncl_stage.proofs.WalkLaws.{with_bits-more}
use Rattle.ncl_stage.proofs.walk.add_bits.Goals as goal

pub loop-bit-preserved : goal.loop-bit-preserved
loop-bit-preserved c = c.in_ok-insert.ensures.keys ∙ ap (λ l. with_bit l c.loop-bit.bit) c.loop-bit.invariant ∙ with_bits-more c.args.found.now.keys c.loop-bit.bit
