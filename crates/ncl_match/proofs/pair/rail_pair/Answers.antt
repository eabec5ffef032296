use Rattle.ncl_match.proofs.PairLaws.{[], Err, Makes, SpaceData, WordFunction, ap, false, first-too_much, fits, get_or, handed_on, made-pair, rail_table, second-too_much, subst, ℕ, ◌∷◌, ◌≡◌}
use Rattle.ncl_match.proofs.pair.rail_pair.Goals as goal

abbrev bit_function : ℕ → WordFunction
bit_function bit word = get_or word bit false

pub returns-in_err-one-clause-full : goal.returns-in_err-one-clause-full
returns-in_err-one-clause-full g c = λ e.
    first-too_much (g.P.Space.meaning c.args.space.now) (bit_function c.args.bit)
    (c.in_err-one.ensures.full (ap Err (handed_on c.from_residual.result c.in_err-one.field-0.0 c.from_residual.ensures.1 e)))

pub returns-in_err-zero-clause-full : goal.returns-in_err-zero-clause-full
returns-in_err-zero-clause-full g c = λ e.
    let old : SpaceData = g.P.Space.meaning c.args.space.now in
    let mid : SpaceData = g.P.Space.meaning c.rail.new.self in
    second-too_much old mid (bit_function c.args.bit) c.in_ok-one.one c.in_ok-one.ensures.kept c.in_ok-one.ensures.made
    (subst (λ n. fits mid (rail_table n c.args.bit false ∷ []) ≡ false) c.in_ok-one.ensures.kept.width
    (c.in_err-zero.ensures.full (ap Err (handed_on c.from_residual-in_err-zero.result c.in_err-zero.field-0.0 c.from_residual-in_err-zero.ensures.1 e))))

pub returns-clause-made : goal.returns-clause-made
returns-clause-made g c =
    let mid : SpaceData = g.P.Space.meaning c.rail.new.self in
    let new : SpaceData = g.P.Space.meaning c.rail-2.new.self in
    made-pair _ mid new (record { one = c.in_ok-one.one; zero = c.in_ok-zero.zero }) (bit_function c.args.bit) c.in_ok-one.ensures.kept c.in_ok-one.ensures.made c.in_ok-zero.ensures.kept
    (subst (λ n. Makes mid new c.in_ok-zero.zero (rail_table n c.args.bit false)) c.in_ok-one.ensures.kept.width c.in_ok-zero.ensures.made)
