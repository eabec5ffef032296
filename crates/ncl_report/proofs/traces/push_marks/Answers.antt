use Rattle.std.proofs.Common.{false, arith, map, ap, ◌++◌, ◌∷◌, [], ◌∙◌}
use Rattle.ncl_report.specs.TraceText.{mark_of, marks}
use Rattle.ncl_report.proofs.Zipping.{mapped_more, all_pairs, appended}
use Rattle.ncl_report.proofs.traces.push_marks.Goals as goal

pub loop-place-preserved : goal.loop-place-preserved
loop-place-preserved c =
    appended _ _ _ c.args.text.now.items _ _ (c.in_ok-push.ensures.items ∙ (λ i. c.loop-place.text.items ++ c.mark.ensures i ∷ [])) c.loop-place.invariant
    (mapped_more c.bits-zero.result.now c.bits-one.result.now (λ rails. mark_of rails.0 rails.1) c.loop-place.place false false (omega arith))

pub returns : goal.returns
returns c =
    c.loop-place.invariant
    ∙ ap (λ pairs. c.args.text.now.items ++ map (λ rails. mark_of rails.0 rails.1) pairs) (all_pairs c.bits-zero.result.now c.bits-one.result.now c.loop-place.place (omega arith))
    ∙ (λ i. c.args.text.now.items ++ marks (c.bits-zero.ensures.bits i) (c.bits-one.ensures.bits i))
