use Rattle.ncl_match.proofs.PlanSteps.{Bool, Err, InputLoop, List, Pair, Rails, SpaceData, ap, handed_on, input-more, input-passed, input-refused, inputs-begin, no_rails, subst, sym, ℕ, ◌+◌, ◌∙◌}
use Rattle.ncl_match.proofs.inputs.input_pairs.Goals as goal
use Rattle.ncl_match.proofs.inputs.input_pairs.Goals.{then-is_needed+in_ok-made}
use Rattle.ncl_match.proofs.inputs.input_pairs.Goals.{else-is_needed}

pub loop-bit-init : goal.loop-bit-init
loop-bit-init g c = inputs-begin (g.P.Space.meaning c.args.space.now) c.args.inputs.now c.args.marks.now c.args.pairs.now c.facts.ensures c.requires.pairs

pub returns-in_err-made-clause-full : goal.returns-in_err-made-clause-full
returns-in_err-made-clause-full g c = λ e.
    let old : SpaceData = g.P.Space.meaning c.args.space.now in
    let now : SpaceData = g.P.Space.meaning c.loop-bit.space in
    input-refused old now c.args.inputs.now c.args.marks.now c.args.pairs.now c.loop-bit.pairs c.loop-bit.bit c.loop-bit-test.true c.loop-bit.invariant
    (sym c.is_needed.ensures ∙ c.if-is_needed.true)
    (c.in_err-made.ensures.full (ap Err (handed_on c.from_residual.result c.in_err-made.field-0.0 c.from_residual.ensures.1 e)))

pub loop-bit-preserved : goal.loop-bit-preserved
loop-bit-preserved g c =
    let old : SpaceData = g.P.Space.meaning c.args.space.now in
    let inputs : List Rails = c.args.inputs.now in
    let marks : List Bool = c.args.marks.now in
    let first : List Pair = c.args.pairs.now in
    let place : ℕ = c.loop-bit.bit in
    let lt = c.loop-bit-test.true in
    elim c.if-is_needed.branch [
      | then-is_needed+in_ok-made w ↦
          let new : SpaceData = g.P.Space.meaning w.rail_pair.new.space in
          let more = input-more _ _ inputs marks first _ place lt c.loop-bit.invariant (sym c.is_needed.ensures ∙ w.if-is_needed.true) new w.in_ok-made.made w.swapped.result c.requires.differ
          (c.requires.zeros place no_rails lt) (c.requires.ones place no_rails lt) w.in_ok-made.ensures.kept w.swapped.ensures.one w.swapped.ensures.zero w.in_ok-made.ensures.made in
          subst (λ s. InputLoop old (g.P.Space.meaning s) inputs marks first c.if-is_needed.pairs (place + 1)) (sym w.space-is)
          (subst (λ ps. InputLoop old new inputs marks first ps (place + 1)) (sym w.pairs-is) more)
      | else-is_needed w ↦
          let more = input-passed _ _ inputs marks first _ place lt c.loop-bit.invariant (sym c.is_needed.ensures ∙ w.if-is_needed.false) in
          subst (λ s. InputLoop old (g.P.Space.meaning s) inputs marks first c.if-is_needed.pairs (place + 1)) (sym w.space-is)
          (subst (λ ps. InputLoop old (g.P.Space.meaning c.loop-bit.space) inputs marks first ps (place + 1)) (sym w.pairs-is) more)
    ]
