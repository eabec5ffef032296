use Rattle.ncl_match.proofs.PairLaws.{[], Bool, List, Lit, MakesPair, Pair, SpaceData, WordFunction, ap, arith, cover-off, cover_function, cover_tables, false, functions_at, has-swapped, inverse, length, rows_function, same-function, subst, sym, ◌<◌, ◌==◌, ◌∙◌, ◌∷◌, ◌≡◌}
use Rattle.ncl_match.proofs.cover.cover_pair.Goals as goal
use Rattle.ncl_match.proofs.cover.cover_pair.Goals.{then-cover}
use Rattle.ncl_match.proofs.cover.cover_pair.Goals.{else-cover}

-- the complement of the rows is the value of an off-set that has rows
swapped_cover : (old new : SpaceData) (ins : List Pair) (rows : List (List Lit)) (on : Bool) (some other : Pair) → on ≡ false → 0 < length rows → other.one ≡ some.zero → other.zero ≡ some.one
    → MakesPair old new some (rows_function (functions_at old ins) rows) (cover_tables old.width (functions_at old ins) rows) → MakesPair old new other (cover_function (functions_at old ins) on rows) (cover_tables old.width (functions_at old ins) rows)
swapped_cover old new ins rows on some other off filled one_is zero_is made =
    let fs : List WordFunction = functions_at old ins in
    record {
      has = same-function new other (inverse (rows_function fs rows)) (cover_function fs on rows)
          (λ w wide. cover-off fs rows filled w ∙ ap (λ b. cover_function fs b rows w) (sym off))
          (has-swapped new some other (rows_function fs rows) one_is zero_is made.has);
      held = made.held;
    }

-- a list that isn't empty
filled : {X : Type 0} (xs : List X) → (length xs == 0) ≡ false → 0 < length xs
filled [] e = absurd cc
filled (x ∷ xs) e = omega arith

pub returns-else-is_empty-clause-made : goal.returns-else-is_empty-clause-made
returns-else-is_empty-clause-made g c =
    let old : SpaceData = g.P.Space.meaning c.args.space.now in
    let new : SpaceData = g.P.Space.meaning c.rows_pair.new.space in
    let rows : c.items-rows.result.now ≡ c.args.cover.now.rows = c.items-rows.ensures in
    elim c.if-cover.branch [
      | then-cover w ↦ absurd (let on = sym w.value-is ∙ c.if-is_empty.false in cc)
      | else-cover w ↦
          swapped_cover old new c.args.ins.now c.args.cover.now.rows c.args.cover.now.on c.in_ok-some.some c.swapped.result w.if-cover.false
          (subst (λ l. 0 < length l) rows (filled c.items-rows.result.now (sym w.is_empty.ensures ∙ sym w.value-is ∙ c.if-is_empty.false)))
          c.swapped.ensures.one c.swapped.ensures.zero
          (subst (λ l. MakesPair old new c.in_ok-some.some (rows_function (functions_at old c.args.ins.now) l) (cover_tables old.width (functions_at old c.args.ins.now) l)) rows c.in_ok-some.ensures.made)
    ]
