use Rattle.ncl_match.proofs.Terms.{All, All-cons, All-nil}
use Rattle.ncl_match.proofs.MarkLaws.{[], AreMarks, DataCell, List, NetId, ap, arith, is_marked, is_on, length, marks-more, marks-passed, marks-root, member-before, subst, sym, ◌-◌, ◌<◌, ◌||◌, ◌∙◌}
use Rattle.ncl_match.proofs.marks.mark_reaching.Goals as goal

pub loop-place-init : goal.loop-place-init
loop-place-init c =
    marks-root c.args.plan.now (length c.args.marks.now) c.args.root c.args.marks.now c.mark.new.marks c.requires.fresh c.mark.auto.marks c.mark.ensures

pub loop-place-preserved : goal.loop-place-preserved
loop-place-preserved c =
    let plan : List DataCell = c.args.plan.now in
    let cell : DataCell = c.index-plan-place.result in
    let (at, case) = member-before plan c.loop-place.place cell (AreMarks plan (length c.args.marks.now) c.args.root.0 c.loop-place.marks) c.loop-place.auto.place c.loop-place-test.true c.index-plan-place.is c.loop-place.invariant in
    marks-passed plan (length c.args.marks.now) c.args.root.0 c.loop-place.marks (c.loop-place.place - 1) cell at c.if-marks-cell.false case

pub loop-place-preserved-then-marks-cell : goal.loop-place-preserved-then-marks-cell
loop-place-preserved-then-marks-cell c =
    let plan : List DataCell = c.args.plan.now in
    let cell : DataCell = c.index-plan-place.result in
    let (at, case) = member-before plan c.loop-place.place cell (AreMarks plan (length c.args.marks.now) c.args.root.0 c.loop-place.marks) c.loop-place.auto.place c.loop-place-test.true c.index-plan-place.is c.loop-place.invariant in
    marks-more plan (length c.args.marks.now) c.args.root.0 c.loop-place.marks c.mark-then-marks-cell.new.marks (c.loop-place.place - 1) cell c.requires.ordered at c.if-marks-cell.true c.mark-then-marks-cell.auto.marks
    (λ net. c.mark-then-marks-cell.ensures net ∙ ap (λ ins. is_marked c.loop-place.marks net || is_on ins net) c.as_slice.ensures.value) case

pub mark-requires : goal.mark-requires
mark-requires c = All-cons (λ (x : NetId). x.0 < length c.args.marks.now) c.args.root [] c.requires.root (All-nil (λ (x : NetId). x.0 < length c.args.marks.now))

pub mark-requires-then-marks-cell : goal.mark-requires-then-marks-cell
mark-requires-then-marks-cell c =
    let plan : List DataCell = c.args.plan.now in
    let cell : DataCell = c.index-plan-place.result in
    let (at, case) = member-before plan c.loop-place.place cell (AreMarks plan (length c.args.marks.now) c.args.root.0 c.loop-place.marks) c.loop-place.auto.place c.loop-place-test.true c.index-plan-place.is c.loop-place.invariant in
    subst (All (λ (x : NetId). x.0 < length c.loop-place.marks)) (sym c.as_slice.ensures.value)
    (λ k d lt. let below = c.requires.ordered.ins (c.loop-place.place - 1) cell at k d lt in omega (arith, below, c.loop-place.invariant.many))

pub bounds-marks-cell : goal.bounds-marks-cell
bounds-marks-cell c =
    let plan : List DataCell = c.args.plan.now in
    let cell : DataCell = c.index-plan-place.result in
    let (at, case) = member-before plan c.loop-place.place cell (AreMarks plan (length c.args.marks.now) c.args.root.0 c.loop-place.marks) c.loop-place.auto.place c.loop-place-test.true c.index-plan-place.is c.loop-place.invariant in
    let below = c.requires.ordered.outs (c.loop-place.place - 1) cell at in
    omega (arith, below, c.loop-place.invariant.many)
