use Rattle.ncl_delay.proofs.Terms.{[], ap, insert_all, insert_all-none, insert_all-turn, map, once_each-AllDiffer, same_name, take_all, ◌∙◌}
use Rattle.ncl_delay.proofs.delay_text.number_names.Goals as goal

pub loop-cell-preserved : goal.loop-cell-preserved
loop-cell-preserved c =
    let name = c.in_ok-from_bytes.ensures ∙ c.bytes.ensures ∙ ap (λ cell. cell.name) c.cell-item.is in
    insert_all-turn (λ cell. cell.name) c.args.cells.now c.loop-cell.cell-index c.cell-item.result _ _ _ c.loop-cell.invariant c.in_ok-insert.ensures.keys name c.loop-cell-test.true

pub returns : goal.returns
returns c =
    let names = map (λ cell. cell.name) c.args.cells.now in
    c.loop-cell.invariant ∙ ap (λ cells. insert_all same_name [] (map (λ cell. cell.name) cells)) (take_all _ _ c.loop-cell-test.false)
    ∙ insert_all-none names ∙ once_each-AllDiffer names c.requires
