use Rattle.ncl_network.proofs.Terms.{List, Lit, ap, arith, common_steps, length, map, map_push, select, subst₂, sym, take, take_all, ◌∙◌, ◌≡◌}
use Rattle.ncl_network.proofs.Selecting.{select_more}
use Rattle.ncl_network.proofs.select.select_rows.Goals as goal
use Rattle.ncl_network.proofs.select.select_rows.Goals.{then-live-place+in_ok-lits+in_ok-push, else-live-place}

pub loop-place-preserved : goal.loop-place-preserved
loop-place-preserved c =
    let e = select_more c.args.live.now c.args.rows.now c.loop-place.place c.index-rows-place.result (omega arith) (omega arith) c.index-rows-place.is in
    let m = ap (map (select c.args.mask.now)) e in
    elim c.if-live-place.branch [
      | then-live-place+in_ok-lits+in_ok-push w ↦ grind (arith, common_steps, map_push {X = List Lit} {Y = List Lit})
      | else-live-place w ↦ grind (arith, common_steps)
    ]

pub bounds-live-place : goal.bounds-live-place
bounds-live-place c = omega (arith, c.requires.live, c.loop-place-test.true)

pub select-requires : goal.select-requires
select-requires c =
    sym (ap length (c.items.ensures ∙ c.index-rows-place.is) ∙ c.requires.widths c.loop-place.place c.index-rows-place.result c.loop-place-test.true)

pub returns : goal.returns
returns c =
    let live : take c.loop-place.place c.args.live.now ≡ c.args.live.now = take_all c.loop-place.place c.args.live.now (omega (arith, c.requires.live, c.loop-place-test.false)) in
    let rows : take c.loop-place.place c.args.rows.now ≡ c.args.rows.now = take_all c.loop-place.place c.args.rows.now (omega (arith, c.loop-place-test.false)) in
    subst₂ (λ live rows. c.loop-place.kept.items ≡ map (select c.args.mask.now) (select live rows)) live rows c.loop-place.invariant
