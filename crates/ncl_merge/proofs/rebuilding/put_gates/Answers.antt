use Rattle.ncl_merge.proofs.Choices.{HaveGates, StageCell, arith, length, subst, sym, take_all, ◌++◌, ◌<◌, put-more}
use Rattle.ncl_merge.proofs.rebuilding.put_gates.Goals as goal

pub loop-cell-preserved : goal.loop-cell-preserved
loop-cell-preserved c = λ before have once.
    let cells = c.args.cells.now in
    let k = c.loop-cell.cell-index in
    let g = c.cell-item.result in
    let own : g.out.0 < length c.args.gates.now = subst (λ (x : StageCell). x.out.0 < length c.args.gates.now) (sym c.cell-item.is) (c.requires k g c.loop-cell-test.true) in
    let long = c.loop-cell.auto.gates in
    let inside : g.out.0 < length c.loop-cell.gates = omega (arith, own, long) in
    put-more c.loop-cell.gates before cells k g c.in_ok-copied.field-0 c.loop-cell-test.true c.in_ok-copied.ensures c.cell-item.is inside (c.loop-cell.invariant before have once) once

pub returns : goal.returns
returns c = λ before have once. subst (λ xs. HaveGates c.loop-cell.gates (before ++ xs)) (take_all c.loop-cell.cell-index c.args.cells.now c.loop-cell-test.false) (c.loop-cell.invariant before have once)
