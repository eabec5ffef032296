use Rattle.std.proofs.Common.{refl}
use Rattle.ncl_report.proofs.Zipping.{appended}
use Rattle.ncl_report.proofs.traces.push_counts.Goals as goal

pub returns : goal.returns
returns c =
    let steps = c.in_ok-push_number.ensures in
    let word = appended _ _ _ c.args.text.now.items _ _ c.in_ok-extend_from_slice.ensures.items steps refl in
    let delivered = appended _ _ _ c.args.text.now.items _ _ c.in_ok-push_number-2.ensures word refl in
    let of = appended _ _ _ c.args.text.now.items _ _ c.in_ok-extend_from_slice-2.ensures.items delivered refl in
    appended _ _ _ c.args.text.now.items _ _ c.in_ok-push_number-3.ensures of refl
