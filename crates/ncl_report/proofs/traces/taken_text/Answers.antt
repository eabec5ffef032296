use Rattle.std.proofs.Common.{◌++◌, ◌+◌, sym, ap, ◌∙◌}
use Rattle.ncl_report.specs.TraceText.{taken_line}
use Rattle.ncl_report.proofs.Zipping.{lines_at}
use Rattle.ncl_report.proofs.traces.taken_text.Goals as goal

pub loop-place-preserved : goal.loop-place-preserved
loop-place-preserved c =
    let place = c.loop-place.place in
    let taken = c.index-delivered-place.result in
    c.in_ok-push_taken.ensures ∙ ap (λ text. text ++ taken_line (place + 1) taken) c.loop-place.invariant
    ∙ sym (lines_at c.args.delivered.now place taken c.loop-place-test.true c.index-delivered-place.is)
