use Rattle.ncl_network.proofs.Terms.{All, Cover, IsWalked, List, None, Some, [], ap, arith, cond, get, get_or, input_signal, length, nat_cmp, nat_lt, subst, sym, take, take_all, take_more, ℕ, ◌<◌, ◌∙◌, ◌≡◌}
use Rattle.ncl_network.proofs.CoverOrder.{IsWalked-none, turn_done, turn_few, turn_ready, turn_within}
use Rattle.ncl_network.proofs.walk.walk_covers.Goals as goal

pub loop-place-init : goal.loop-place-init
loop-place-init c =
    subst (λ nodes. IsWalked c.args.model.now (get nat_cmp c.in_ok-walk.walk.signals) nodes []) (sym c.in_ok-walk.ensures.nodes)
    (IsWalked-none c.args.model.now (get nat_cmp c.in_ok-walk.walk.signals) c.requires.model (λ q. c.in_ok-walk.ensures.known q ∙ ap (λ (inputs : List ℕ). cond (nat_lt q (length inputs)) (Some (input_signal q)) None) c.items.ensures))

pub take_cover-requires-clause-known : goal.take_cover-requires-clause-known
take_cover-requires-clause-known c =
    let cover : Cover = c.index-covers-place.result in
    let place : ℕ = get_or c.args.order.now c.loop-place.place-index 0 in
    turn_ready c.args.model.now c.requires.model c.args.order.now c.requires.order c.loop-place.place-index c.loop-place-test.true (get nat_cmp c.loop-place.walk.signals) c.loop-place.walk.nodes.items cover (c.index-covers-place.is ∙ ap (λ covers. get_or covers place cover) c.items-covers.ensures) c.loop-place.invariant

pub take_cover-requires-clause-few : goal.take_cover-requires-clause-few
take_cover-requires-clause-few c =
    turn_few c.args.model.now c.requires.model c.args.order.now c.requires.order c.loop-place.place-index c.loop-place-test.true (get nat_cmp c.loop-place.walk.signals) c.loop-place.walk.nodes.items c.loop-place.invariant

pub loop-place-preserved : goal.loop-place-preserved
loop-place-preserved c =
    let cover : Cover = c.index-covers-place.result in
    let place : ℕ = get_or c.args.order.now c.loop-place.place-index 0 in
    let at = turn_done c.args.model.now c.requires.model c.args.order.now c.requires.order c.loop-place.place-index c.loop-place-test.true cover (c.index-covers-place.is ∙ ap (λ covers. get_or covers place cover) c.items-covers.ensures) in
    subst (IsWalked c.args.model.now (get nat_cmp c.take_cover.new.self.signals) c.take_cover.new.self.nodes.items) (sym (take_more c.args.order.now c.loop-place.place-index 0 c.loop-place-test.true))
    (c.in_ok-take_cover.ensures c.args.model.now (take c.loop-place.place-index c.args.order.now) place at c.loop-place.invariant)

pub begin-requires : goal.begin-requires
begin-requires c = omega (arith, ap length c.items.ensures, c.requires.model.small)

pub bounds-covers-place : goal.bounds-covers-place
bounds-covers-place c =
    subst (λ (covers : List Cover). get_or c.args.order.now c.loop-place.place-index 0 < length covers) (sym c.items-covers.ensures)
    (turn_within c.args.model.now c.requires.model c.args.order.now c.requires.order c.loop-place.place-index c.loop-place-test.true)

pub take_cover-requires-clause-widths : goal.take_cover-requires-clause-widths
take_cover-requires-clause-widths c =
    let cover : Cover = c.index-covers-place.result in
    let place : ℕ = get_or c.args.order.now c.loop-place.place-index 0 in
    subst (λ (cover : Cover). All (λ row. length row ≡ length cover.ins) cover.rows) (sym (c.index-covers-place.is ∙ ap (λ covers. get_or covers place cover) c.items-covers.ensures))
    (c.requires.model.row_widths place cover (turn_within c.args.model.now c.requires.model c.args.order.now c.requires.order c.loop-place.place-index c.loop-place-test.true))

pub returns : goal.returns
returns c =
    subst (IsWalked c.args.model.now (get nat_cmp c.loop-place.walk.signals) c.loop-place.walk.nodes.items) (take_all c.loop-place.place-index c.args.order.now (omega (arith, c.loop-place-test.false))) c.loop-place.invariant
