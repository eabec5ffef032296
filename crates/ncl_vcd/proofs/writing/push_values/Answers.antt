use Rattle.ncl_vcd.proofs.Terms.{line, meaning, value_line, ◌++◌, ◌∙◌}
use Rattle.ncl_vcd.proofs.WritingLaws.{values-step}
use Rattle.ncl_vcd.proofs.writing.push_values.Goals as goal

pub loop-net-preserved : goal.loop-net-preserved
loop-net-preserved c =
    c.in_ok-push_value.ensures
    ∙ (λ k. c.loop-net.invariant k ++ line (value_line c.loop-net.net (c.value.ensures k)))
    ∙ values-step c.args.text.now.items (meaning c.args.state.now).value c.loop-net.net
