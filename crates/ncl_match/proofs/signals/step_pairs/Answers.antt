use Rattle.ncl_match.proofs.SignalLaws.{[], All, Bool, Err, HasFunction, IsPair, List, Pair, Some, SpaceData, Step, ap, arith, bit_at, common_steps, cover_function, cover_tables, false, fits, functions_at, handed_on, keeps_along, if◌then◌else◌, length, length_push, map, pair_at, pairs-begin, pairs-more, refl, signal_function, slice_get, slice_get_read, step-has, step-refused, step-turn, step-within, step_tables, subst, sym, true, with_tables, ℕ, ◌++◌, ◌+◌, ◌<◌, ◌∙◌, ◌∷◌, ◌≡◌}
use Rattle.ncl_match.proofs.signals.step_pairs.Goals as goal

pub loop-step-init : goal.loop-step-init
loop-step-init g c =
    let s : SpaceData = g.P.Space.meaning c.args.space.now in
    let many : length c.args.pairs.now.items ≡ s.width = c.requires.many in
    record {
      many = omega (arith, many);
      done = pairs-begin s (step_tables s.width c.args.steps.now c.args.marks.now) (signal_function c.args.steps.now) c.args.marks.now c.args.pairs.now.items c.facts.ensures c.requires.pairs (λ x lt mark. c.requires.have x (omega (arith, lt, many)) mark);
    }

pub step_pair-requires-clause-within : goal.step_pair-requires-clause-within
step_pair-requires-clause-within g c =
    let old : SpaceData = g.P.Space.meaning c.args.space.now in
    let now : SpaceData = g.P.Space.meaning c.loop-step.space in
    let steps : List Step = c.args.steps.now in
    let step : Step = c.step-item.result in
    let place : ℕ = c.loop-step.step-index in
    let at : slice_get steps place ≡ Some step = slice_get_read steps (length steps) place step refl c.loop-step-test.true c.step-item.is in
    let (root, needed) = c.requires.marks in
    subst (λ ps. All (λ (x : ℕ). x < length ps) step.ins) (sym c.as_slice-before.ensures.value)
    (step-within old now steps c.args.marks.now c.loop-step.pairs.items place root step at c.requires.ordered needed c.loop-step.invariant.many c.loop-step.invariant.done)

pub step_pair-requires-clause-widths : goal.step_pair-requires-clause-widths
step_pair-requires-clause-widths g c =
    let steps : List Step = c.args.steps.now in
    let place : ℕ = c.loop-step.step-index in
    c.requires.ordered.widths place c.step-item.result (slice_get_read steps (length steps) place c.step-item.result refl c.loop-step-test.true c.step-item.is)

pub returns-in_err-pair-clause-full : goal.returns-in_err-pair-clause-full
returns-in_err-pair-clause-full g c = λ e.
    let old : SpaceData = g.P.Space.meaning c.args.space.now in
    let now : SpaceData = g.P.Space.meaning c.loop-step.space in
    let steps : List Step = c.args.steps.now in
    let marks : List Bool = c.args.marks.now in
    let step : Step = c.step-item.result in
    let place : ℕ = c.loop-step.step-index in
    let at : slice_get steps place ≡ Some step = slice_get_read steps (length steps) place step refl c.loop-step-test.true c.step-item.is in
    let (root, needed) = c.requires.marks in
    let len_is : length c.as_slice-before.result.now ≡ length c.loop-step.pairs.items = ap length c.as_slice-before.ensures.value in
    let mark : Bool = bit_at marks (length c.as_slice-before.result.now) in
    step-refused old now steps marks c.loop-step.pairs.items place root step at c.requires.ordered needed c.loop-step.invariant.many c.loop-step.invariant.done mark (ap (bit_at marks) (sym len_is)) c.loop-step-test.true
    (subst (λ ps. fits now (if mark then cover_tables now.width (functions_at now (map (pair_at ps) step.ins)) step.cover.now.rows else []) ≡ false) c.as_slice-before.ensures.value
    (c.in_err-pair.ensures.full (ap Err (handed_on c.from_residual.result c.in_err-pair.field-0.0 c.from_residual.ensures.1 e))))

pub loop-step-preserved : goal.loop-step-preserved
loop-step-preserved g c =
    let old : SpaceData = g.P.Space.meaning c.args.space.now in
    let now : SpaceData = g.P.Space.meaning c.loop-step.space in
    let new : SpaceData = g.P.Space.meaning c.step_pair.new.space in
    let steps : List Step = c.args.steps.now in
    let marks : List Bool = c.args.marks.now in
    let pairs : List Pair = c.loop-step.pairs.items in
    let step : Step = c.step-item.result in
    let rows = c.step-item.result.cover.now.rows in
    let place : ℕ = c.loop-step.step-index in
    let p : Pair = c.in_ok-pair.pair in
    let l = c.loop-step.invariant.done in
    let many : length pairs ≡ old.width + place = c.loop-step.invariant.many in
    let at : slice_get steps place ≡ Some step = slice_get_read steps (length steps) place step refl c.loop-step-test.true c.step-item.is in
    let (root, needed) = c.requires.marks in
    let len_is : length c.as_slice-before.result.now ≡ length c.loop-step.pairs.items = ap length c.as_slice-before.ensures.value in
    let mark : Bool = bit_at marks (length c.as_slice-before.result.now) in
    let is : bit_at marks (length pairs) ≡ mark = ap (bit_at marks) (sym len_is) in
    let more : c.push.new.self.items ≡ pairs ++ p ∷ [] = grind (arith, common_steps) in
    let has : bit_at marks (length pairs) ≡ true → HasFunction new p (cover_function (functions_at now (map (pair_at pairs) step.ins)) step.cover.now.on rows) =
    λ h. subst (λ ps. HasFunction new p (cover_function (functions_at now (map (pair_at ps) step.ins)) step.cover.now.on rows)) c.as_slice-before.ensures.value (c.in_ok-pair.ensures.has (sym is ∙ h)) in
    let held : new.held ≡ with_tables now (step_tables old.width steps marks place) =
    c.in_ok-pair.ensures.held
    ∙ ap (λ ps. with_tables now (if mark then cover_tables now.width (functions_at now (map (pair_at ps) step.ins)) rows else [])) c.as_slice-before.ensures.value
    ∙ ap (with_tables now) (step-turn old now steps marks pairs place root step at c.requires.ordered needed many l mark is) in
    record {
      many = ap length more ∙ length_push pairs p ∙ omega (arith, many);
      done = pairs-more old now new (step_tables old.width steps marks) (signal_function steps) marks pairs place p l c.in_ok-pair.ensures.kept c.in_ok-pair.ensures.pair
          (step-has old now steps marks pairs place root step at c.requires.ordered needed many l new p c.in_ok-pair.ensures.kept has) held c.push.new.self.items more;
    }

pub step_pair-requires-clause-pairs : goal.step_pair-requires-clause-pairs
step_pair-requires-clause-pairs g c =
    subst (All (IsPair (g.P.Space.meaning c.loop-step.space))) (sym c.as_slice-before.ensures.value) c.loop-step.invariant.done.pairs_too

pub returns-in_err-pair-clause-kept : goal.returns-in_err-pair-clause-kept
returns-in_err-pair-clause-kept g c =
    keeps_along (g.P.Space.meaning c.args.space.now) (g.P.Space.meaning c.loop-step.space) (g.P.Space.meaning c.step_pair.new.space) c.loop-step.invariant.done.turned.kept c.in_err-pair.ensures.kept

pub returns-in_err-push-clause-kept : goal.returns-in_err-push-clause-kept
returns-in_err-push-clause-kept g c =
    keeps_along (g.P.Space.meaning c.args.space.now) (g.P.Space.meaning c.loop-step.space) (g.P.Space.meaning c.step_pair.new.space) c.loop-step.invariant.done.turned.kept c.in_ok-pair.ensures.kept

pub returns-clause-kept : goal.returns-clause-kept
returns-clause-kept g c = c.loop-step.invariant.done.turned.kept
