use Rattle.ncl_blif.proofs.Terms.{Cover, NamedCover, YieldsList-from_vec, YieldsList-turn, ap, arith, get_or, length, length_push, numbered_cover, rules, slice_set, sym, without_rows, ◌<◌, ◌∙◌, ◌≡◌}
use Rattle.ncl_blif.proofs.MovedRows.{reached, further_on}
use Rattle.ncl_blif.proofs.finish.with_rows.Goals as goal

pub loop-cover-preserved : goal.loop-cover-preserved
loop-cover-preserved c =
    let full : NamedCover → Cover = numbered_cover c.args.draft in
    let bare : NamedCover → Cover = λ cover. without_rows (full cover) in
    let all = c.args.draft.covers in
    let done = c.loop-cover.yielded in
    let place = c.loop-cover.place in
    let cover = c.in-Some.cover in
    let covers = c.into_covers-cover-items.ensures in
    let (is, so_far) = c.loop-cover.invariant in
    let turn = YieldsList-turn (YieldsList-from_vec c.into_covers-cover-items.result.items (search rules) (search rules)) done c.loop-cover.cover-iterator c.loop-cover.yielded_by c.next.result c.next.new.self cover c.in-Some.is c.next.ensures.steps in
    let within : place < length all = omega (arith, turn.0, ap length covers) in
    let at : cover ≡ get_or all place cover = turn.1 ∙ (λ i. get_or (covers i) (sym is i) cover) in
    let old : c.index_mut.result.now ≡ bare cover = c.index_mut.ensures.value ∙ ap (λ xs. get_or xs place c.index_mut.result.now) so_far ∙ reached full bare all done place cover c.index_mut.result.now is within at in (
      omega (arith, length_push done cover),
      (λ i. slice_set (so_far i) place (record (old i) { rows = c.into_rows.ensures i })) ∙ further_on full bare all done place cover is within at,
    )
