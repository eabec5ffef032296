use Rattle.ncl_cells.proofs.Terms.{IfOk-weaker, MayStand, Node, Some, place_read, slice_get, subst, sym, ◌≡◌}
use Rattle.ncl_cells.proofs.StandIns.{MayStand-itself}
use Rattle.ncl_cells.proofs.recasting.node_for.Goals as goal

pub returns-then-branch : goal.returns-then-branch
returns-then-branch c =
    IfOk-weaker c.copied_node.result (λ copy. copy ≡ c.in-Some-Some.offer.node) (MayStand c.args.network.now c.args.place)
    (λ copy same. subst (MayStand c.args.network.now c.args.place) (sym same) (c.in_ok-may_stand.ensures c.if-branch.true))
    c.copied_node.ensures

pub returns : goal.returns
returns c =
    let node : Node = c.index-items-place.result in
    let here : slice_get c.args.network.now.nodes c.args.place ≡ Some node = place_read c.args.network.now.nodes c.items.result.now c.args.place node c.items.ensures c.index-items-place.is c.requires.within in
    IfOk-weaker c.copied_node-2.result (λ copy. copy ≡ node) (MayStand c.args.network.now c.args.place)
    (λ copy same. subst (MayStand c.args.network.now c.args.place) (sym same) (MayStand-itself c.args.network.now c.args.place node c.requires.network here))
    c.copied_node-2.ensures
