use Rattle.ncl_match.proofs.ModelLaws.{AreInRow, AreNeeded, AreOrdered, Bool, Err, HasSignal, HaveBits, HaveSteps, List, Model, Pair, SpaceData, Step, all-held, ap, arith, bits-overflow, bits-signals, false, first_tables, fits, gathered, get_or, handed_on, keeps_along, length, output-had, output-inside, outputs_size, pair_at, rules, step_tables, steps-gather, steps-overflow, subst, subst₂, sym, width_of, ℕ, ◌∙◌, ◌≡◌}
use Rattle.ncl_match.proofs.signals.models_pair.Goals as goal

-- the row by the models that it is of
in-row : (models own : List Model) (steps : List Step) (outs : List ℕ) → own ≡ models → AreInRow own steps outs → AreInRow models steps outs
in-row models own steps outs same row = subst (λ ms. AreInRow ms steps outs) same row

-- the marks by the steps and the numbers that are theirs
needed-of : (n w : ℕ) (steps read : List Step) (outs now : List ℕ) (output : ℕ) (marks : List Bool) → n ≡ w → read ≡ steps → now ≡ outs → AreNeeded n read (get_or now output 0) marks 0 → AreNeeded w steps (get_or outs output 0) marks 0
needed-of n w steps read outs now output marks e f h needed =
    subst (λ k. AreNeeded k steps (get_or outs output 0) marks 0) e (subst₂ (λ l outs. AreNeeded n l (get_or outs output 0) marks 0) f h needed)

-- the inputs by the marks and the width that are theirs
bits-of : (old mid : SpaceData) (l marks : List Bool) (pairs : List Pair) (n w : ℕ) → l ≡ marks → n ≡ w → HaveBits old mid l pairs n → HaveBits old mid marks pairs w
bits-of old mid l marks pairs n w same wide have = subst₂ (λ l n. HaveBits old mid l pairs n) same wide have

pub offset_bounds-outputs-output : goal.offset_bounds-outputs-output
offset_bounds-outputs-output g c =
    let row : AreInRow c.args.ordered.now c.ordered.inside.steps.items c.ordered.inside.outputs.items = in-row _ _ _ _ c.ordered.view_is c.ordered.invariant in
    omega (arith, outputs_size c.args.ordered.now, row.are_models.small, c.requires.output)

pub bounds-outputs-output : goal.bounds-outputs-output
bounds-outputs-output g c =
    let row = in-row _ _ _ _ c.ordered.view_is c.ordered.invariant in
    let inside = output-inside c.args.ordered.now _ _ c.args.output row c.requires.output in
    let same = ap length c.as_slice-outputs.ensures.value in
    omega (arith, inside, same)

pub returns-in_err-pairs-clause-full : goal.returns-in_err-pairs-clause-full
returns-in_err-pairs-clause-full g c = λ circuit wide e.
    let old : SpaceData = g.P.Space.meaning c.args.space.now in
    let models : List Model = c.args.ordered.now in
    let steps : List Step = c.ordered.inside.steps.items in
    let outs : List ℕ = c.ordered.inside.outputs.items in
    let marks : List Bool = c.in_ok-marks.marks.items in
    let n_is : c.first_width-inputs.result ≡ width_of models = c.first_width-inputs.ensures ∙ ap width_of c.models.ensures in
    let needed = needed-of _ _ steps _ outs _ c.args.output marks n_is c.deref.ensures.value c.as_slice-outputs.ensures.value c.in_ok-marks.ensures in
    bits-overflow models steps outs (in-row _ _ _ _ c.ordered.view_is c.ordered.invariant) c.args.output c.requires.output marks needed circuit wide old c.requires.width
    (subst₂ (λ l n. fits old (gathered (first_tables old.width l) n) ≡ false) c.deref-2.ensures.value n_is
    (c.in_err-pairs.ensures.full (ap Err (handed_on c.from_residual-in_err-pairs.result c.in_err-pairs.field-0.0 c.from_residual-in_err-pairs.ensures.1 e))))

pub step_pairs-requires-clause-have : goal.step_pairs-requires-clause-have
step_pairs-requires-clause-have g c =
    let old : SpaceData = g.P.Space.meaning c.args.space.now in
    let mid : SpaceData = g.P.Space.meaning c.bit_pairs.new.space in
    let n : ℕ = c.first_width-inputs.result in
    let mid_wide : mid.width ≡ n = c.in_ok-pairs.ensures.kept.width ∙ c.requires.width ∙ sym (c.first_width-inputs.ensures ∙ ap width_of c.models.ensures) in
    let same_marks : c.deref-2.result.now ≡ c.deref-4.result.now = c.deref-2.ensures.value ∙ sym c.deref-4.ensures.value in
    bits-signals old mid c.deref-3.result.now c.deref-4.result.now c.in_ok-pairs.pairs.items n mid_wide
    (subst (λ l. HaveBits old mid l c.in_ok-pairs.pairs.items n) same_marks c.in_ok-pairs.ensures.have)

pub returns-in_err-step_pairs-clause-full : goal.returns-in_err-step_pairs-clause-full
returns-in_err-step_pairs-clause-full g c = λ circuit wide e.
    let old : SpaceData = g.P.Space.meaning c.args.space.now in
    let mid : SpaceData = g.P.Space.meaning c.bit_pairs.new.space in
    let models : List Model = c.args.ordered.now in
    let steps : List Step = c.ordered.inside.steps.items in
    let outs : List ℕ = c.ordered.inside.outputs.items in
    let marks : List Bool = c.in_ok-marks.marks.items in
    let n_is : c.first_width-inputs.result ≡ width_of models = c.first_width-inputs.ensures ∙ ap width_of c.models.ensures in
    let needed = needed-of _ _ steps _ outs _ c.args.output marks n_is c.deref.ensures.value c.as_slice-outputs.ensures.value c.in_ok-marks.ensures in
    let bits = bits-of old mid _ marks c.in_ok-pairs.pairs.items _ _ c.deref-2.ensures.value n_is c.in_ok-pairs.ensures.have in
    steps-overflow models steps outs (in-row _ _ _ _ c.ordered.view_is c.ordered.invariant) c.args.output c.requires.output marks needed circuit wide old c.requires.width mid _ c.in_ok-pairs.ensures.kept bits
    (subst₂ (λ steps l. fits mid (gathered (step_tables mid.width steps l) (length steps)) ≡ false) c.deref-3.ensures.value c.deref-4.ensures.value
    (c.in_err-step_pairs.ensures.full (ap Err (handed_on c.from_residual-in_err-step_pairs.result c.in_err-step_pairs.field-0.0 c.from_residual-in_err-step_pairs.ensures.1 e))))

pub returns : goal.returns
returns g c =
    let old : SpaceData = g.P.Space.meaning c.args.space.now in
    let mid : SpaceData = g.P.Space.meaning c.bit_pairs.new.space in
    let new : SpaceData = g.P.Space.meaning c.step_pairs.new.space in
    let models : List Model = c.args.ordered.now in
    let steps : List Step = c.ordered.inside.steps.items in
    let outs : List ℕ = c.ordered.inside.outputs.items in
    let marks : List Bool = c.in_ok-marks.marks.items in
    let pairs : List Pair = c.step_pairs.new.pairs.items in
    let row = in-row _ _ _ _ c.ordered.view_is c.ordered.invariant in
    let n_is : c.first_width-inputs.result ≡ width_of models = c.first_width-inputs.ensures ∙ ap width_of c.models.ensures in
    let needed = needed-of _ _ steps _ outs _ c.args.output marks n_is c.deref.ensures.value c.as_slice-outputs.ensures.value c.in_ok-marks.ensures in
    let bits = bits-of old mid _ marks c.in_ok-pairs.pairs.items _ _ c.deref-2.ensures.value n_is c.in_ok-pairs.ensures.have in
    let done = subst₂ (λ steps l. HaveSteps mid new steps l pairs (length steps)) c.deref-3.ensures.value c.deref-4.ensures.value c.in_ok-step_pairs.ensures.have in
    record {
      signal = λ circuit wide.
          subst₂ (λ ps outs. HasSignal new (pair_at ps (get_or outs c.args.output 0)) circuit models c.args.output) (sym c.as_slice-made.ensures.value) (sym c.as_slice-outputs.ensures.value)
          (output-had models steps outs row c.args.output c.requires.output marks needed circuit wide old c.requires.width mid _ c.in_ok-pairs.ensures.kept bits new pairs c.in_ok-step_pairs.ensures.kept done);
      signals = λ circuit wide. all-held models steps outs row c.args.output c.requires.output marks needed circuit wide old c.requires.width mid _ c.in_ok-pairs.ensures.kept bits new pairs c.in_ok-step_pairs.ensures.kept done;
      gathers = λ circuit wide. steps-gather models steps outs row c.args.output c.requires.output marks needed circuit wide old c.requires.width mid _ c.in_ok-pairs.ensures.kept bits new pairs c.in_ok-step_pairs.ensures.kept done;
      kept = keeps_along old mid new c.in_ok-pairs.ensures.kept c.in_ok-step_pairs.ensures.kept;
      full = search rules;
    }

pub needed_signals-requires-clause-ordered : goal.needed_signals-requires-clause-ordered
needed_signals-requires-clause-ordered g c =
    let row = in-row _ _ _ _ c.ordered.view_is c.ordered.invariant in
    let n_is : c.first_width-inputs.result ≡ width_of c.args.ordered.now = c.first_width-inputs.ensures ∙ ap width_of c.models.ensures in
    subst₂ AreOrdered (sym n_is) (sym c.deref.ensures.value) row.ordered

pub needed_signals-requires-clause-few : goal.needed_signals-requires-clause-few
needed_signals-requires-clause-few g c =
    let row = in-row _ _ _ _ c.ordered.view_is c.ordered.invariant in
    let n_is : c.first_width-inputs.result ≡ width_of c.args.ordered.now = c.first_width-inputs.ensures ∙ ap width_of c.models.ensures in
    omega (arith, row.few, n_is, ap length c.deref.ensures.value)

pub needed_signals-requires-clause-root : goal.needed_signals-requires-clause-root
needed_signals-requires-clause-root g c =
    let row = in-row _ _ _ _ c.ordered.view_is c.ordered.invariant in
    let n_is : c.first_width-inputs.result ≡ width_of c.args.ordered.now = c.first_width-inputs.ensures ∙ ap width_of c.models.ensures in
    let below = row.below c.args.output 0 (output-inside c.args.ordered.now _ _ c.args.output row c.requires.output) in
    let root = ap (λ outs. get_or outs c.args.output 0) c.as_slice-outputs.ensures.value in
    omega (arith, below, root, n_is, ap length c.deref.ensures.value)

pub bit_pairs-requires-clause-width : goal.bit_pairs-requires-clause-width
bit_pairs-requires-clause-width g c = c.requires.width ∙ sym (c.first_width-inputs.ensures ∙ ap width_of c.models.ensures)

pub step_pairs-requires-clause-many : goal.step_pairs-requires-clause-many
step_pairs-requires-clause-many g c =
    let wide = c.requires.width ∙ sym (c.first_width-inputs.ensures ∙ ap width_of c.models.ensures) in
    c.in_ok-pairs.ensures.have.many ∙ sym (c.in_ok-pairs.ensures.kept.width ∙ wide)

pub step_pairs-requires-clause-pairs : goal.step_pairs-requires-clause-pairs
step_pairs-requires-clause-pairs g c = c.in_ok-pairs.ensures.have.are_pairs

pub step_pairs-requires-clause-ordered : goal.step_pairs-requires-clause-ordered
step_pairs-requires-clause-ordered g c =
    let row = in-row _ _ _ _ c.ordered.view_is c.ordered.invariant in
    subst₂ AreOrdered (sym (c.in_ok-pairs.ensures.kept.width ∙ c.requires.width)) (sym c.deref-3.ensures.value) row.ordered

pub returns-in_err-step_pairs-clause-kept : goal.returns-in_err-step_pairs-clause-kept
returns-in_err-step_pairs-clause-kept g c =
    keeps_along (g.P.Space.meaning c.args.space.now) (g.P.Space.meaning c.bit_pairs.new.space) (g.P.Space.meaning c.step_pairs.new.space) c.in_ok-pairs.ensures.kept c.in_err-step_pairs.ensures.kept

pub bit_pairs-requires-clause-marks : goal.bit_pairs-requires-clause-marks
bit_pairs-requires-clause-marks g c = omega (arith, c.in_ok-marks.ensures.many, ap length c.deref-2.ensures.value)

pub step_pairs-requires-clause-marks : goal.step_pairs-requires-clause-marks
step_pairs-requires-clause-marks g c =
    let root : ℕ = get_or c.as_slice-outputs.result.now c.args.output 0 in
    let wide = c.in_ok-pairs.ensures.kept.width ∙ c.requires.width ∙ sym (c.first_width-inputs.ensures ∙ ap width_of c.models.ensures) in
    let steps : c.deref.result.now ≡ c.deref-3.result.now = c.deref.ensures.value ∙ sym c.deref-3.ensures.value in (
      root,
      subst (λ n. AreNeeded n c.deref-3.result.now root c.deref-4.result.now 0) (sym wide)
          (subst₂ (λ l marks. AreNeeded c.first_width-inputs.result l root marks 0) steps (sym c.deref-4.ensures.value) c.in_ok-marks.ensures),
    )

pub bounds-made-root : goal.bounds-made-root
bounds-made-root g c =
    let row = in-row _ _ _ _ c.ordered.view_is c.ordered.invariant in
    let below = row.below c.args.output 0 (output-inside c.args.ordered.now _ _ c.args.output row c.requires.output) in
    let root = ap (λ outs. get_or outs c.args.output 0) c.as_slice-outputs.ensures.value in
    omega (arith, below, root, c.in_ok-pairs.ensures.kept.width, c.requires.width, c.in_ok-step_pairs.ensures.have.many, ap length c.deref-3.ensures.value, ap length c.as_slice-made.ensures.value)
