use Rattle.ncl_match.proofs.PairLaws.{[], All, Bool, Err, HasFunction, IsPair, Keeps, List, Lit, MakesPair, Pair, SpaceData, Th12, Turned, WordFunction, ap, arith, both_tables, cover_tables, false, fits, function-is, function_at, functions-kept, functions_at, gate_function, gathered, get_or, get_or_default, handed_on, has-kept, held-along, keeps_along, length, or_gate, row_function, row_tables, rows-more, rows_function, same-function, same-tables, subst, suc, sym, take, too_much-after, too_much-turn, too_much_by_front, turn_tables, turned-next, turned-none, with_tables, ℕ, ◌+◌, ◌<◌, ◌||◌, ◌∙◌, ◌∷◌, ◌≡◌}
use Rattle.ncl_match.proofs.cover.rows_pair.Goals as goal

-- a turn: the next row is made, and taken
module _ (old now mid : SpaceData) (ins : List Pair) (rows : List (List Lit)) (place : ℕ) (some matched : Pair) (row : List Lit) where
  abbrev fs : List WordFunction
  fs = functions_at old ins

  abbrev turn : ℕ → List (List Bool)
  turn = turn_tables old.width fs rows

  abbrev own : List WordFunction
  own = functions_at now ins

  abbrev next : WordFunction
  next = gate_function Th12 (functions_at mid (some ∷ matched ∷ []))

  module _ (turned : Turned old now (gathered turn place)) (are : All (IsPair old) ins) (lt : place < length rows) (is : row ≡ get_or rows place row) where
    default : row ≡ get_or rows place []
    default = is ∙ get_or_default rows place row [] lt

    row_same : row_tables now.width own row ≡ row_tables old.width fs (get_or rows place [])
    row_same = λ i. row_tables (turned.kept.width i) (functions-kept old now ins turned.kept are i) (default i)

    -- the row is refused
    pub refused-row : fits now (row_tables now.width own row) ≡ false → fits old (cover_tables old.width fs rows) ≡ false
    refused-row full =
        too_much-turn old now turn place (length rows) lt turned
        (too_much_by_front now (row_tables old.width fs (get_or rows place [])) (both_tables old.width (rows_function fs (take (suc place) rows)))
        (subst (λ ts. fits now ts ≡ false) row_same full))

    module _ (has : HasFunction now some (rows_function fs (take place rows))) (k : Keeps now mid) (made : MakesPair now mid matched (row_function own row) (row_tables now.width own row)) where
      same : (w : List Bool) → length w ≡ mid.width → next w ≡ rows_function fs (take (suc place) rows) w
      same w wide =
          let so_far : function_at mid some w ≡ rows_function fs (take place rows) w = function-is mid some (rows_function fs (take place rows)) (has-kept now mid some (rows_function fs (take place rows)) k has).table w wide in
          let one : function_at mid matched w ≡ row_function fs (get_or rows place []) w =
          function-is mid matched (row_function own row) made.has.table w wide ∙ (λ i. row_function (functions-kept old now ins turned.kept are i) (default i) w) in
          or_gate (function_at mid some w) (function_at mid matched w) ∙ (λ i. so_far i || one i) ∙ sym (rows-more fs rows place lt w)

      tables : both_tables mid.width next ≡ both_tables old.width (rows_function fs (take (suc place) rows))
      tables = same-tables mid.width next (rows_function fs (take (suc place) rows)) same ∙ ap (λ n. both_tables n (rows_function fs (take (suc place) rows))) (k.width ∙ turned.kept.width)

      -- the disjunction is refused
      pub refused-some : fits mid (both_tables mid.width next) ≡ false → fits old (cover_tables old.width fs rows) ≡ false
      refused-some full =
          too_much-turn old now turn place (length rows) lt turned
          (too_much-after now mid (row_tables old.width fs (get_or rows place [])) (both_tables old.width (rows_function fs (take (suc place) rows))) k
          (made.held ∙ ap (with_tables now) row_same)
          (subst (λ ts. fits mid ts ≡ false) tables full))

      pub turned-on : (new : SpaceData) (p : Pair) → Keeps mid new → MakesPair mid new p next (both_tables mid.width next) → Turned old new (gathered turn (place + 1)) × HasFunction new p (rows_function fs (take (place + 1) rows))
      turned-on new p l also =
          let e : suc place ≡ place + 1 = omega arith in (
            turned-next old now new turn place turned (keeps_along now mid new k l)
                (held-along now mid new (row_tables old.width fs (get_or rows place [])) (both_tables old.width (rows_function fs (take (suc place) rows))) k
                (made.held ∙ ap (with_tables now) row_same) (also.held ∙ ap (with_tables mid) tables)),
            subst (λ j. HasFunction new p (rows_function fs (take j rows))) e (same-function new p next (rows_function fs (take (suc place) rows)) (λ w wide. same w (wide ∙ l.width)) also.has),
          )

pub loop-row-init : goal.loop-row-init
loop-row-init g c =
    let old : SpaceData = g.P.Space.meaning c.args.space.now in
    record { turned = turned-none old c.facts.ensures; has = c.constant_pair-some.ensures; within = omega arith }

pub returns-in_err-matched-clause-full : goal.returns-in_err-matched-clause-full
returns-in_err-matched-clause-full g c = λ e.
    let old : SpaceData = g.P.Space.meaning c.args.space.now in
    let now : SpaceData = g.P.Space.meaning c.loop-row.space in
    refused-row old now now c.args.ins.now c.args.rows.now c.loop-row.row-index c.loop-row.some c.loop-row.some c.row-item.result c.loop-row.invariant.turned c.requires.pairs c.loop-row-test.true c.row-item.is
    (c.in_err-matched.ensures.full (ap Err (handed_on c.from_residual.result c.in_err-matched.field-0.0 c.from_residual.ensures.1 e)))

pub returns-in_err-some-clause-full : goal.returns-in_err-some-clause-full
returns-in_err-some-clause-full g c = λ e.
    let old : SpaceData = g.P.Space.meaning c.args.space.now in
    let now : SpaceData = g.P.Space.meaning c.loop-row.space in
    let mid : SpaceData = g.P.Space.meaning c.row_pair.new.space in
    refused-some old now mid c.args.ins.now c.args.rows.now c.loop-row.row-index c.loop-row.some c.in_ok-matched.matched c.row-item.result c.loop-row.invariant.turned c.requires.pairs c.loop-row-test.true c.row-item.is
    c.loop-row.invariant.has c.in_ok-matched.ensures.kept c.in_ok-matched.ensures.made
    (c.in_err-some.ensures.full (ap Err (handed_on c.from_residual-in_err-some.result c.in_err-some.field-0.0 c.from_residual-in_err-some.ensures.1 e)))

pub loop-row-preserved : goal.loop-row-preserved
loop-row-preserved g c =
    let on = turned-on _ _ _ c.args.ins.now c.args.rows.now c.loop-row.row-index c.loop-row.some c.in_ok-matched.matched c.row-item.result c.loop-row.invariant.turned c.requires.pairs c.loop-row-test.true c.row-item.is
    c.loop-row.invariant.has c.in_ok-matched.ensures.kept c.in_ok-matched.ensures.made
    _ c.in_ok-some.some c.in_ok-some.ensures.kept c.in_ok-some.ensures.made in
    record { turned = on.0; has = on.1; within = omega (arith, c.loop-row-test.true) }
