use Rattle.ncl_match.proofs.PlanSteps.{Bool, DataCell, Err, List, Pair, PlanLoop, Some, SpaceData, ap, get_or, handed_on, length, loop-begins, loop-more, loop-passed, refl, refused, slice_get, slice_get_read, subst, sym, ℕ, ◌+◌, ◌<◌, ◌≡◌}
use Rattle.ncl_match.proofs.nets.plan_pairs.Goals as goal
use Rattle.ncl_match.proofs.nets.plan_pairs.Goals.{then-marks-cell+in_ok-made}
use Rattle.ncl_match.proofs.nets.plan_pairs.Goals.{else-marks-cell}

at_place : (plan : List DataCell) (place : ℕ) (cell : DataCell) → place < length plan → cell ≡ get_or plan place cell → slice_get plan place ≡ Some cell
at_place plan place cell lt is = slice_get_read plan (length plan) place cell refl lt is

pub loop-cell-init : goal.loop-cell-init
loop-cell-init g c = loop-begins (g.P.Space.meaning c.args.space.now) c.args.plan.now c.args.marks.now c.args.pairs.now c.facts.ensures c.requires.pairs

pub bounds-marks-cell : goal.bounds-marks-cell
bounds-marks-cell g c =
    subst (λ n. c.cell-item.result.out.0 < n) (sym c.requires.marks)
    (c.requires.ordered.outs c.loop-cell.cell-index c.cell-item.result (at_place c.args.plan.now c.loop-cell.cell-index c.cell-item.result c.loop-cell-test.true c.cell-item.is))

pub cell_pair-requires-clause-within : goal.cell_pair-requires-clause-within
cell_pair-requires-clause-within g c = λ k d lt.
    subst (λ n. (get_or c.cell-item.result.ins.items k d).0 < n) (sym c.loop-cell.invariant.many)
    (c.requires.ordered.ins c.loop-cell.cell-index c.cell-item.result (at_place c.args.plan.now c.loop-cell.cell-index c.cell-item.result c.loop-cell-test.true c.cell-item.is) k d lt)

pub cell_pair-requires-clause-pins : goal.cell_pair-requires-clause-pins
cell_pair-requires-clause-pins g c =
    c.requires.pins c.loop-cell.cell-index c.cell-item.result (at_place c.args.plan.now c.loop-cell.cell-index c.cell-item.result c.loop-cell-test.true c.cell-item.is)

pub returns-in_err-made-clause-full : goal.returns-in_err-made-clause-full
returns-in_err-made-clause-full g c = λ inputs v case e.
    let old : SpaceData = g.P.Space.meaning c.args.space.now in
    let now : SpaceData = g.P.Space.meaning c.loop-cell.space in
    let plan : List DataCell = c.args.plan.now in
    let place = c.loop-cell.cell-index in
    let cell : DataCell = c.cell-item.result in
    refused old now plan c.args.marks.now c.args.pairs.now c.loop-cell.pairs inputs v place cell (at_place plan place cell c.loop-cell-test.true c.cell-item.is) case c.loop-cell.invariant.kept (c.loop-cell.invariant.done inputs v case)
    c.if-marks-cell.true c.loop-cell-test.true
    (c.in_err-made.ensures.full (ap Err (handed_on c.from_residual.result c.in_err-made.field-0.0 c.from_residual.ensures.1 e)))

pub loop-cell-preserved : goal.loop-cell-preserved
loop-cell-preserved g c =
    let old : SpaceData = g.P.Space.meaning c.args.space.now in
    let now : SpaceData = g.P.Space.meaning c.loop-cell.space in
    let plan : List DataCell = c.args.plan.now in
    let marks : List Bool = c.args.marks.now in
    let first : List Pair = c.args.pairs.now in
    let pairs : List Pair = c.loop-cell.pairs in
    let place : ℕ = c.loop-cell.cell-index in
    let cell : DataCell = c.cell-item.result in
    let lt = c.loop-cell-test.true in
    let at = at_place plan place cell lt c.cell-item.is in
    elim c.if-marks-cell.branch [
      | then-marks-cell+in_ok-made w ↦
          let within : cell.out.0 < length pairs = subst (λ n. cell.out.0 < n) (sym c.loop-cell.invariant.many) (c.requires.ordered.outs place cell at) in
          let more = loop-more old now (g.P.Space.meaning w.cell_pair.new.space) plan marks first pairs place cell w.in_ok-made.made at lt w.if-marks-cell.true within w.in_ok-made.ensures.kept w.in_ok-made.ensures.made c.loop-cell.invariant in
          subst (λ s. PlanLoop old (g.P.Space.meaning s) plan marks first c.if-marks-cell.pairs (place + 1)) (sym w.space-is)
          (subst (λ ps. PlanLoop old (g.P.Space.meaning w.cell_pair.new.space) plan marks first ps (place + 1)) (sym w.pairs-is) more)
      | else-marks-cell w ↦
          let more = loop-passed old now plan marks first pairs place cell at lt w.if-marks-cell.false c.loop-cell.invariant in
          subst (λ s. PlanLoop old (g.P.Space.meaning s) plan marks first c.if-marks-cell.pairs (place + 1)) (sym w.space-is)
          (subst (λ ps. PlanLoop old (g.P.Space.meaning c.loop-cell.space) plan marks first ps (place + 1)) (sym w.pairs-is) more)
    ]
