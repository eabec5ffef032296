use Rattle.ncl_cells.proofs.Terms.{AreRecast, List, MayStand, Node, ap, arith, length, length_push, subst, sym}
use Rattle.ncl_cells.proofs.Remade.{IsInOrder-narrow}
use Rattle.ncl_cells.proofs.StandIns.{AreRecast-none, AreRecast-push}
use Rattle.ncl_cells.proofs.recasting.recast_nodes.Goals as goal

pub overflow_cast-place-end : goal.overflow_cast-place-end
overflow_cast-place-end c = omega (arith, ap length c.items.ensures, (IsInOrder-narrow c.args.network.now c.requires).few)

pub loop-place-init : goal.loop-place-init
loop-place-init c = (
  ap length c.new-nodes.ensures.items,
  subst (AreRecast c.args.network.now) (sym c.new-nodes.ensures.items) (AreRecast-none c.args.network.now),
)

pub loop-place-preserved : goal.loop-place-preserved
loop-place-preserved c =
    let nodes : List Node = c.loop-place.nodes.items in
    let node : Node = c.in_ok-node.node in
    let pushed = c.in_ok-push.ensures.items in
    let may : MayStand c.args.network.now (length nodes) node = subst (λ place. MayStand c.args.network.now place node) (sym c.loop-place.invariant.0) c.in_ok-node.ensures in (
      omega (arith, ap length pushed, length_push nodes node, c.loop-place.invariant.0),
      AreRecast-push c.args.network.now nodes c.push.new.self.items node c.loop-place.invariant.1 may pushed,
    )
