use Rattle.std.proofs.Common.{[], sym, ap, ◌+◌, ◌∙◌}
use Rattle.ncl_stage.specs.BitOrder.{with_bit}
use Rattle.ncl_stage.proofs.OrderLaws.{ascending-is}
use Rattle.ncl_stage.proofs.WalkLaws.{with_bits-more}
use Rattle.judging_tests.proofs.tests.stage_tests.numbered.Goals as goal

pub loop-net-preserved : goal.loop-net-preserved
loop-net-preserved c =
    let net = c.loop-net.net in
    c.in_ok-insert.ensures.keys ∙ ap (λ nets. with_bit nets net) (c.loop-net.invariant ∙ sym (ascending-is net)) ∙ with_bits-more [] net ∙ ascending-is (net + 1)
