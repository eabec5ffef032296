use Rattle.ncl_sim.proofs.RowLaws.{AreFirstRows, NetlistData, ap, arith, length, refl, rows-all, rows-next, slice_get_read, subst, sym, ◌+◌, ◌∙◌}
use Rattle.ncl_sim.proofs.rows.rows_of.Goals as goal

pub loop-k-preserved : goal.loop-k-preserved
loop-k-preserved c =
    let cells = c.cells-cells.result.now in
    subst (AreFirstRows c.args.delays.now cells (c.loop-k.k + 1)) (sym c.in_ok-push.ensures.items)
    (rows-next c.args.delays.now cells c.loop-k.k c.loop-k.rows.items c.index-cells-k.result c.new.result c.of.result c.of-in-loop-k.result c.loop-k.invariant
    (slice_get_read cells (length cells) c.loop-k.k c.index-cells-k.result refl c.loop-k-test.true c.index-cells-k.is)
    c.of.ensures.value c.of-in-loop-k.ensures.value c.new.ensures)

pub returns : goal.returns
returns c =
    rows-all c.args.pipeline.now c.args.delays.now c.cells-cells.result.now c.loop-k.k c.loop-k.rows.items
    (c.cells-cells.ensures.cells ∙ ap (λ (n : NetlistData). n.cells) c.netlist.ensures.netlist) (omega (arith, c.loop-k-test.false, c.loop-k.auto.k-end)) c.loop-k.invariant
