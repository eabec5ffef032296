use Rattle.ncl_merge.proofs.Choices.{All, Cell, CellFits, IfSome, NetId, Option, [], becomes, false, get_or, length, map, part_of, subst, sym, with_kept, ◌++◌, ◌<◌, ◌∙◌, kept-more, kept-within, member-read}
use Rattle.ncl_merge.proofs.rebuilding.kept_cells.Goals as goal

pub add_kept-requires : goal.add_kept-requires
add_kept-requires c =
    let n = c.args.netlist.now in
    let k = c.loop-cell.cell-index in
    let cell = c.cell-item.result in
    let (lt, is) = member-read c.cells-cell-items.result.now n.cells k cell c.cells-cell-items.ensures.cells c.loop-cell-test.true c.cell-item.is in
    let fits = subst (CellFits (length n.nets)) (sym is) (c.cells-cell-items.ensures.netlist.fits k cell lt) in
    let own = kept-within (length n.nets) c.args.gates.now cell c.index-gates-net.result (get_or c.args.staged.now cell.out.0 false) fits (subst (λ size. cell.out.0 < size) (sym c.requires.gates) fits.output) c.index-gates-net.is c.requires.pins in
    let kept = becomes c.index-gates-net.result (get_or c.args.staged.now cell.out.0 false) cell in
    subst (λ (o : Option Cell). IfSome o (λ d. All (λ (x : NetId). x.0 < length c.nets.result.now) d.ins.items × (d.out.0 < length c.nets.result.now))) (sym c.becomes-kept.ensures)
    (subst (λ names. IfSome kept (λ (d : Cell). All (λ (x : NetId). x.0 < length names) d.ins.items × (d.out.0 < length names))) (sym c.nets.ensures.nets) own)

pub loop-cell-preserved : goal.loop-cell-preserved
loop-cell-preserved c =
    let n = c.args.netlist.now in
    let k = c.loop-cell.cell-index in
    let cell = c.cell-item.result in
    let (lt, is) = member-read c.cells-cell-items.result.now n.cells k cell c.cells-cell-items.ensures.cells c.loop-cell-test.true c.cell-item.is in
    let fits = subst (CellFits (length n.nets)) (sym is) (c.cells-cell-items.ensures.netlist.fits k cell lt) in
    kept-more n.nets c.args.gates.now c.args.staged.now n.cells k cell c.index-gates-net.result c.loop-cell.parts.items c.add_kept.new.parts.items lt is (subst (λ size. cell.out.0 < size) (sym c.requires.gates) fits.output) c.index-gates-net.is c.loop-cell.invariant
    (c.in_ok-add_kept.ensures ∙ (λ i. c.loop-cell.parts.items ++ map (part_of (c.nets.ensures.nets i)) (with_kept (c.becomes-kept.ensures i) [])))
