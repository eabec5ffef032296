use Rattle.ncl_blif.proofs.Terms.{arith, common_steps, driver_place, eqb-true, option_or_stays, position_from-more, subst, take, true, ◌==◌, ◌≡◌}
use Rattle.std.proofs.Common.{is_some}
use Rattle.ncl_blif.proofs.dependence.driver_places.Goals as goal
use Rattle.ncl_blif.proofs.dependence.driver_places.Goals.{then-not-contains_key+in_ok-insert, else-not-contains_key}

pub loop-place-preserved : goal.loop-place-preserved
loop-place-preserved c = λ q.
    let before = take c.loop-place.place c.args.covers.now in
    let out = c.index-covers-place.result.out in
    let inv = c.loop-place.invariant q in
    let own = c.loop-place.invariant out in
    let more = position_from-more (λ cover. cover.out == q) c.args.covers.now c.loop-place.place c.index-covers-place.result c.loop-place-test.true in
    elim c.if-not-contains_key.branch [
      | then-not-contains_key+in_ok-insert w ↦ grind (arith, common_steps)
      | else-not-contains_key w ↦
          let known : is_some (driver_place before out) ≡ true = cc in
          let stays = option_or_stays (driver_place before q) (out == q) c.loop-place.place (λ same. subst (λ x. is_some (driver_place before x) ≡ true) (eqb-true out q same) known) in
          cc
    ]
