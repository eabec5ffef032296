use Rattle.ncl_verdict.proofs.Terms.{StageCell, StageData, ap, cell_number, get_or, slice_get-get_or, sym, ◌∙◌}
use Rattle.ncl_verdict.proofs.variants.cell_at.Goals as goal

pub returns : goal.returns
returns c =
    let s : StageData = c.args.stage.now in
    let place = c.args.place in
    let d : StageCell = c.index-items-place.result in
    ap (λ xs. (get_or xs place d).cell) (c.items.ensures ∙ ap (λ (t : StageData). t.cells) c.stage.view_is) ∙ ap cell_number (sym (slice_get-get_or s.cells place d c.requires))
