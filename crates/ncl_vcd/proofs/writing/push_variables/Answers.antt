use Rattle.ncl_vcd.proofs.Terms.{line, variable_line, ◌++◌, ◌∙◌}
use Rattle.ncl_vcd.proofs.WritingLaws.{nets-step}
use Rattle.ncl_vcd.proofs.writing.push_variables.Goals as goal

pub loop-net-preserved : goal.loop-net-preserved
loop-net-preserved c =
    c.in_ok-push_variable.ensures
    ∙ (λ k. c.loop-net.invariant k ++ line (variable_line c.loop-net.net (c.bytes.ensures k)))
    ∙ nets-step c.args.text.now.items c.args.nets.now c.loop-net.net c.index-nets-net.result c.loop-net-test.true c.index-nets-net.is
