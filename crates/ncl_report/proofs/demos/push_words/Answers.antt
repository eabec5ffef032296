use Rattle.std.proofs.Common.{arith, ap, ◌++◌, ◌∙◌}
use Rattle.std.specs.List.{flat_map}
use Rattle.ncl_report.specs.DemoText.{pair_line}
use Rattle.ncl_report.proofs.Zipping.{joined_more, all_pairs, appended}
use Rattle.ncl_report.proofs.demos.push_words.Goals as goal

pub loop-place-preserved : goal.loop-place-preserved
loop-place-preserved c =
    appended _ _ _ c.args.text.now.items _ _ c.in_ok-push_pair.ensures c.loop-place.invariant
    (joined_more c.args.offered.now c.args.delivered.now pair_line c.loop-place.place c.index-offered-place.result c.index-delivered-place.result (omega arith) c.index-offered-place.is c.index-delivered-place.is)

pub returns : goal.returns
returns c =
    c.loop-place.invariant ∙ ap (λ pairs. c.args.text.now.items ++ flat_map pair_line pairs) (all_pairs c.args.offered.now c.args.delivered.now c.loop-place.place (omega arith))
