use Rattle.ncl_verdict.proofs.Terms.{StageCell, StageData, [], ap, below, get_or, length, map, map-append, subst, sym, ◌++◌, ◌<◌, ◌∙◌, ◌∷◌, ◌≡◌}
use Rattle.ncl_verdict.proofs.FileOrder.{numbered, below-more, file_number-at}
use Rattle.ncl_verdict.proofs.file_order.numbered_cells.Goals as goal

pub loop-place-preserved : goal.loop-place-preserved
loop-place-preserved c =
    let s : StageData = c.args.stage.now in
    let i = c.loop-place.place in
    let cell : StageCell = c.cell-item.result in
    let cells : c.items-cell-items.result.now ≡ s.cells = c.items-cell-items.ensures ∙ ap (λ (t : StageData). t.cells) c.stage.view_is in
    let within : i < length s.cells = subst (λ xs. i < length xs) cells c.loop-place-test.true in
    let at : cell ≡ get_or s.cells i cell = c.cell-item.is ∙ ap (λ xs. get_or xs i cell) cells in
    let number : cell.cell.0 ≡ (numbered s i).0 = ap (λ (x : StageCell). x.cell.0) at ∙ sym (file_number-at s i cell within) in
    c.in_ok-push.ensures.items
    ∙ (λ k. c.loop-place.invariant k ++ (number k, i) ∷ [])
    ∙ sym (ap (map (numbered s)) (below-more i) ∙ map-append (numbered s) (below i) (i ∷ []))
