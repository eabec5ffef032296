use Rattle.ncl_network.proofs.Terms.{arith, common_steps, select, subst₂, take, take_all, ◌≡◌}
use Rattle.ncl_network.proofs.Selecting.{select_more}
use Rattle.ncl_network.proofs.select.select.Goals as goal
use Rattle.ncl_network.proofs.select.select.Goals.{then-mask-place+in_ok-push, else-mask-place}

pub loop-place-preserved : goal.loop-place-preserved
loop-place-preserved g c =
    let e = select_more c.args.mask.now c.args.items.now c.loop-place.place c.index-items-place.result (omega arith) (omega arith) c.index-items-place.is in
    elim c.if-mask-place.branch [ then-mask-place+in_ok-push w ↦ grind (arith, common_steps) | else-mask-place w ↦ grind (arith, common_steps) ]

pub bounds-mask-place : goal.bounds-mask-place
bounds-mask-place g c = omega (arith, c.requires, c.loop-place-test.true)

pub returns : goal.returns
returns g c =
    let mask : take c.loop-place.place c.args.mask.now ≡ c.args.mask.now = take_all c.loop-place.place c.args.mask.now (omega (arith, c.requires, c.loop-place-test.false)) in
    let items : take c.loop-place.place c.args.items.now ≡ c.args.items.now = take_all c.loop-place.place c.args.items.now (omega (arith, c.loop-place-test.false)) in
    subst₂ (λ mask items. c.loop-place.kept.items ≡ select mask items) mask items c.loop-place.invariant
