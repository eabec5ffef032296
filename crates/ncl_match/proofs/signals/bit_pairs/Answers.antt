use Rattle.ncl_match.proofs.SignalLaws.{[], All, All-nil, Bool, Err, HasFunction, IsPair, List, Pair, SpaceData, ap, arith, bit-turn, bit_at, bit_function, common_steps, false, first_tables, fits, handed_on, keeps_along, length, length_push, pairs-begin, pairs-more, subst, sym, too_much-turn, true, with_tables, ◌++◌, ◌+◌, ◌∙◌, ◌∷◌, ◌≡◌}
use Rattle.ncl_match.proofs.signals.bit_pairs.Goals as goal

pub loop-bit-init : goal.loop-bit-init
loop-bit-init g c =
    let s : SpaceData = g.P.Space.meaning c.args.space.now in
    let none : c.new-pairs.result.items ≡ [] = c.new-pairs.ensures.items in
    let many : length c.new-pairs.result.items ≡ 0 = ap length none in
    record {
      many = many;
      done = pairs-begin s (first_tables s.width c.args.marks.now) bit_function c.args.marks.now c.new-pairs.result.items c.facts.ensures (subst (All (IsPair s)) (sym none) (All-nil (IsPair s))) (λ x lt mark. absurd (omega (arith, lt, many)));
    }

pub returns-in_err-pair-clause-full : goal.returns-in_err-pair-clause-full
returns-in_err-pair-clause-full g c = λ e.
    let old : SpaceData = g.P.Space.meaning c.args.space.now in
    let now : SpaceData = g.P.Space.meaning c.loop-bit.space in
    let l = c.loop-bit.invariant.done in
    too_much-turn old now (first_tables old.width c.args.marks.now) c.loop-bit.bit c.args.inputs c.loop-bit-test.true l.turned
    (subst (λ ts. fits now ts ≡ false) (bit-turn old now c.args.marks.now c.loop-bit.bit l.turned.kept.width)
    (c.in_err-pair.ensures.full (ap Err (handed_on c.from_residual.result c.in_err-pair.field-0.0 c.from_residual.ensures.1 e))))

pub loop-bit-preserved : goal.loop-bit-preserved
loop-bit-preserved g c =
    let old : SpaceData = g.P.Space.meaning c.args.space.now in
    let now : SpaceData = g.P.Space.meaning c.loop-bit.space in
    let marks : List Bool = c.args.marks.now in
    let pairs : List Pair = c.loop-bit.pairs.items in
    let p : Pair = c.in_ok-pair.pair in
    let l = c.loop-bit.invariant.done in
    let many : length pairs ≡ c.loop-bit.bit = c.loop-bit.invariant.many in
    let more : c.push.new.self.items ≡ pairs ++ p ∷ [] = grind (arith, common_steps) in
    record {
      many = ap length more ∙ length_push pairs p ∙ ap (λ k. k + 1) many;
      done = pairs-more old now _ (first_tables old.width marks) bit_function marks pairs c.loop-bit.bit p l c.in_ok-pair.ensures.kept c.in_ok-pair.ensures.pair
          (subst (λ k. bit_at marks k ≡ true → HasFunction (g.P.Space.meaning c.bit_pair.new.space) p (bit_function k)) (sym many) c.in_ok-pair.ensures.has)
          (c.in_ok-pair.ensures.held ∙ ap (with_tables now) (bit-turn old now marks c.loop-bit.bit l.turned.kept.width)) c.push.new.self.items more;
    }

pub bit_pair-requires : goal.bit_pair-requires
bit_pair-requires g c = omega (arith, c.loop-bit.invariant.done.turned.kept.width, c.requires.width, c.loop-bit-test.true)

pub bounds-marks-bit : goal.bounds-marks-bit
bounds-marks-bit g c = omega (arith, c.requires.marks, c.loop-bit-test.true)

pub returns-in_err-pair-clause-kept : goal.returns-in_err-pair-clause-kept
returns-in_err-pair-clause-kept g c =
    keeps_along (g.P.Space.meaning c.args.space.now) (g.P.Space.meaning c.loop-bit.space) (g.P.Space.meaning c.bit_pair.new.space) c.loop-bit.invariant.done.turned.kept c.in_err-pair.ensures.kept

pub returns-in_err-push-clause-kept : goal.returns-in_err-push-clause-kept
returns-in_err-push-clause-kept g c =
    keeps_along (g.P.Space.meaning c.args.space.now) (g.P.Space.meaning c.loop-bit.space) (g.P.Space.meaning c.bit_pair.new.space) c.loop-bit.invariant.done.turned.kept c.in_ok-pair.ensures.kept

pub returns-clause-kept : goal.returns-clause-kept
returns-clause-kept g c = c.loop-bit.invariant.done.turned.kept
