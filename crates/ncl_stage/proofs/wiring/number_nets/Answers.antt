use Rattle.ncl_stage.proofs.Terms.{StageCell, StageData, ap, cell-read, insert_key, insert_out, nat_eq, nets_of, take, ◌∙◌}
use Rattle.ncl_stage.proofs.wiring.number_nets.Goals as goal

pub loop-cell-preserved : goal.loop-cell-preserved
loop-cell-preserved c =
    let s : StageData = c.args.stage.now in
    let i = c.loop-cell.cell-index in
    let cell : StageCell = c.cell-item.result in
    let (within, at) = cell-read s c.items-cell-items.result.now i cell (c.items-cell-items.ensures ∙ ap (λ (t : StageData). t.cells) c.stage.view_is) c.loop-cell-test.true c.cell-item.is in
    c.in_ok-insert.ensures.keys
    ∙ ap (λ ks. insert_key nat_eq ks cell.out.0) c.loop-cell.invariant
    ∙ ap (λ (x : StageCell). insert_key nat_eq (nets_of s.inputs (take i s.cells)) x.out.0) at
    ∙ insert_out s c.facts.ensures i cell within
