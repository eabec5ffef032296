use Rattle.ncl_match.proofs.PairLaws.{All, Bool, Err, HasFunction, IsPair, Keeps, List, Lit, MakesPair, Pair, SpaceData, Turned, WordFunction, Zero, ap, arith, both_tables, false, fits, function_at, functions_at, gathered, get_or, get_or_default, handed_on, keeps_along, length, literal-turn, literal_function, none-matches, pairs-kept, row_function, row_tables, same-function, same-tables, subst, suc, sym, take, take_all, too_much-turn, true, turned-next, turned-none, values_of, with_tables, zero, ℕ, ◌+◌, ◌<◌, ◌∙◌, ◌≡◌}
use Rattle.ncl_match.proofs.cover.row_pair.Goals as goal

abbrev no_pair : Pair
no_pair = record { one = record { place = 0 }; zero = record { place = 0 } }

-- a turn: the next literal is taken
module _ (old now : SpaceData) (ins : List Pair) (row : List Lit) (place : ℕ) (matched : Pair) (lit : Lit) (d : Pair) where
  abbrev fs : List WordFunction
  fs = functions_at old ins

  abbrev turn : ℕ → List (List Bool)
  turn i = both_tables old.width (row_function fs (take (suc i) row))

  abbrev next : WordFunction
  next = literal_function (function_at now matched) lit (function_at now (get_or ins place d))

  module _ (turned : Turned old now (gathered turn place)) (are : All (IsPair old) ins) (lt : place < length row) (many : length row ≡ length ins) (is : lit ≡ get_or row place lit) (has : HasFunction now matched (row_function fs (take place row))) where
    same : (w : List Bool) → length w ≡ now.width → next w ≡ row_function fs (take (suc place) row) w
    same = literal-turn old now ins row place matched (get_or ins place d) lit turned.kept are lt many is (get_or_default ins place d (get_or ins place d) (omega arith)) has

    tables : both_tables now.width next ≡ turn place
    tables = same-tables now.width next (row_function fs (take (suc place) row)) same ∙ ap (λ n. both_tables n (row_function fs (take (suc place) row))) turned.kept.width

    pub refused : fits now (both_tables now.width next) ≡ false → fits old (row_tables old.width fs row) ≡ false
    refused full = too_much-turn old now turn place (length row) lt turned (subst (λ ts. fits now ts ≡ false) tables full)

    pub turned-on : (new : SpaceData) (p : Pair) → Keeps now new → MakesPair now new p next (both_tables now.width next) → Turned old new (gathered turn (place + 1)) × HasFunction new p (row_function fs (take (place + 1) row))
    turned-on new p k made =
        let e : suc place ≡ place + 1 = omega arith in (
          turned-next old now new turn place turned k (made.held ∙ ap (with_tables now) tables),
          subst (λ j. HasFunction new p (row_function fs (take j row))) e (same-function new p next (row_function fs (take (suc place) row)) (λ w wide. same w (wide ∙ k.width)) made.has),
        )

pub loop-place-init : goal.loop-place-init
loop-place-init g c =
    let old : SpaceData = g.P.Space.meaning c.args.space.now in
    let ins : List Pair = c.args.ins.now in
    let lits : List Lit = c.items-lits.result.now in
    record {
      turned = turned-none old c.facts.ensures;
      has = same-function old c.constant_pair-matched.result (λ word. true) (row_function (functions_at old ins) (take zero lits)) (λ w wide. sym (none-matches (values_of (functions_at old ins) w) lits)) c.constant_pair-matched.ensures;
    }

pub with_literal-requires-clause-matched : goal.with_literal-requires-clause-matched
with_literal-requires-clause-matched g c = c.loop-place.invariant.has.pair

pub with_literal-requires-clause-input : goal.with_literal-requires-clause-input
with_literal-requires-clause-input g c =
    let old : SpaceData = g.P.Space.meaning c.args.space.now in
    let now : SpaceData = g.P.Space.meaning c.loop-place.space in
    let many : length c.items-lits.result.now ≡ length c.args.ins.now = ap length c.items-lits.ensures ∙ c.requires.width in
    pairs-kept old now c.args.ins.now c.facts.ensures c.loop-place.invariant.turned.kept c.requires.pairs c.loop-place.place no_pair (subst (λ n. c.loop-place.place < n) many c.loop-place-test.true)

pub returns-in_err-matched-clause-kept : goal.returns-in_err-matched-clause-kept
returns-in_err-matched-clause-kept g c =
    let now : SpaceData = g.P.Space.meaning c.loop-place.space in
    let new : SpaceData = g.P.Space.meaning c.with_literal.new.space in
    keeps_along (g.P.Space.meaning c.args.space.now) now new c.loop-place.invariant.turned.kept c.in_err-matched.ensures.kept

pub returns-in_err-matched-clause-full : goal.returns-in_err-matched-clause-full
returns-in_err-matched-clause-full g c = λ e.
    let old : SpaceData = g.P.Space.meaning c.args.space.now in
    let now : SpaceData = g.P.Space.meaning c.loop-place.space in
    let ins : List Pair = c.args.ins.now in
    let lits : List Lit = c.items-lits.result.now in
    let place = c.loop-place.place in
    subst (λ row. fits old (row_tables old.width (functions_at old ins) row) ≡ false) c.items-lits.ensures
    (refused old now ins lits place c.loop-place.matched (get_or lits place Zero) no_pair c.loop-place.invariant.turned c.requires.pairs c.loop-place-test.true (ap length c.items-lits.ensures ∙ c.requires.width) (get_or_default lits place Zero (get_or lits place Zero) c.loop-place-test.true) c.loop-place.invariant.has
    (c.in_err-matched.ensures.full (ap Err (handed_on c.from_residual.result c.in_err-matched.field-0.0 c.from_residual.ensures.1 e))))

pub loop-place-preserved : goal.loop-place-preserved
loop-place-preserved g c =
    let lits : List Lit = c.items-lits.result.now in
    let place = c.loop-place.place in
    let on = turned-on _ _ c.args.ins.now lits place c.loop-place.matched (get_or lits place Zero) no_pair c.loop-place.invariant.turned c.requires.pairs c.loop-place-test.true (ap length c.items-lits.ensures ∙ c.requires.width) (get_or_default lits place Zero (get_or lits place Zero) c.loop-place-test.true) c.loop-place.invariant.has
    _ c.in_ok-matched.matched c.in_ok-matched.ensures.kept c.in_ok-matched.ensures.made in
    record { turned = on.0; has = on.1 }

pub returns-clause-made : goal.returns-clause-made
returns-clause-made g c =
    let old : SpaceData = g.P.Space.meaning c.args.space.now in
    let now : SpaceData = g.P.Space.meaning c.loop-place.space in
    let fs : List WordFunction = functions_at old c.args.ins.now in
    let lits : List Lit = c.items-lits.result.now in
    let place = c.loop-place.place in
    let all : place ≡ length lits = let most = c.loop-place.auto.place-end in let end = c.loop-place-test.false in omega (arith, most, end) in
    let made : MakesPair old now c.loop-place.matched (row_function fs lits) (row_tables old.width fs lits) = record {
      has = subst (λ row. HasFunction now c.loop-place.matched (row_function fs row)) (take_all place lits c.loop-place-test.false) c.loop-place.invariant.has;
      held = c.loop-place.invariant.turned.held ∙ ap (λ k. with_tables old (gathered (λ i. both_tables old.width (row_function fs (take (suc i) lits))) k)) all;
    } in
    subst (λ row. MakesPair old now c.loop-place.matched (row_function fs row) (row_tables old.width fs row)) c.items-lits.ensures made

pub returns-clause-kept : goal.returns-clause-kept
returns-clause-kept g c = c.loop-place.invariant.turned.kept
