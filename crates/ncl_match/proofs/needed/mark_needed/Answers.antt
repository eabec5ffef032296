use Rattle.ncl_match.proofs.SignalLaws.{[], All, All-cons, All-nil, AreNeeded, List, Step, ap, arith, bit_at, is_among, length, member-before, needed-more, needed-passed, needed-root, subst, sym, ◌-◌, ◌<◌, ◌||◌, ◌∙◌}
use Rattle.ncl_match.proofs.needed.mark_needed.Goals as goal

pub loop-place-init : goal.loop-place-init
loop-place-init c =
    needed-root c.args.inputs c.args.steps.now c.args.root c.args.marks.now c.mark.new.marks c.requires.fresh (c.mark.auto.marks ∙ c.requires.many) c.mark.ensures

pub loop-place-preserved : goal.loop-place-preserved
loop-place-preserved c =
    let steps : List Step = c.args.steps.now in
    let step : Step = c.index-steps-place.result in
    let (at, case) = member-before steps c.loop-place.place step (AreNeeded c.args.inputs steps c.args.root c.loop-place.marks) c.loop-place.auto.place c.loop-place-test.true c.index-steps-place.is c.loop-place.invariant in
    needed-passed c.args.inputs steps c.args.root c.loop-place.marks (c.loop-place.place - 1) step at c.if-marks-inputs.false case

pub loop-place-preserved-then-marks-inputs : goal.loop-place-preserved-then-marks-inputs
loop-place-preserved-then-marks-inputs c =
    let steps : List Step = c.args.steps.now in
    let step : Step = c.index-steps-place.result in
    let (at, case) = member-before steps c.loop-place.place step (AreNeeded c.args.inputs steps c.args.root c.loop-place.marks) c.loop-place.auto.place c.loop-place-test.true c.index-steps-place.is c.loop-place.invariant in
    needed-more c.args.inputs steps c.args.root c.loop-place.marks c.mark-then-marks-inputs.new.marks (c.loop-place.place - 1) step c.requires.ordered at c.if-marks-inputs.true c.mark-then-marks-inputs.auto.marks
    (λ number. c.mark-then-marks-inputs.ensures number ∙ ap (λ ins. bit_at c.loop-place.marks number || is_among ins number) c.items.ensures) case

pub mark-requires : goal.mark-requires
mark-requires c = All-cons (λ x. x < length c.args.marks.now) c.args.root [] (omega (arith, c.requires.many, c.requires.root)) (All-nil (λ x. x < length c.args.marks.now))

pub mark-requires-then-marks-inputs : goal.mark-requires-then-marks-inputs
mark-requires-then-marks-inputs c =
    let steps : List Step = c.args.steps.now in
    let step : Step = c.index-steps-place.result in
    let (at, case) = member-before steps c.loop-place.place step (AreNeeded c.args.inputs steps c.args.root c.loop-place.marks) c.loop-place.auto.place c.loop-place-test.true c.index-steps-place.is c.loop-place.invariant in
    subst (All (λ x. x < length c.loop-place.marks)) (sym c.items.ensures)
    (λ k d lt. let below = c.requires.ordered.before (c.loop-place.place - 1) step at k d lt in omega (arith, below, c.loop-place.invariant.many, c.loop-place.auto.place, c.loop-place-test.true))

pub bounds-steps-place : goal.bounds-steps-place
bounds-steps-place c = omega (arith, c.loop-place.auto.place, c.loop-place-test.true)

pub bounds-marks-inputs : goal.bounds-marks-inputs
bounds-marks-inputs c = omega (arith, c.loop-place.invariant.many, c.loop-place.auto.place, c.loop-place-test.true)
