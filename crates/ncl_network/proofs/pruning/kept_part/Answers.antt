use Rattle.ncl_network.proofs.Terms.{All, IsPlaced, Node, YieldsList-from_vec, YieldsList-turn, arith, get_or, length, length_push, moved_node, rules, subst, sym, ◌<◌}
use Rattle.ncl_network.proofs.Selecting.{part_more}
use Rattle.ncl_network.proofs.pruning.kept_part.Goals as goal

pub loop-node-preserved : goal.loop-node-preserved
loop-node-preserved c =
    let turn = YieldsList-turn (YieldsList-from_vec c.args.nodes.items (search rules) (search rules)) c.loop-node.yielded c.loop-node.node-iterator c.loop-node.yielded_by c.next.result c.next.new.self c.in-Some.node c.in-Some.is c.next.ensures.steps in
    let within : c.loop-node.place < length c.args.kept.now = omega (arith, turn.0) in
    (omega (arith, length_push c.loop-node.yielded c.in-Some.node), part_more (moved_node (λ k. get_or c.args.places.now k 0)) c.args.kept.now c.loop-node.yielded c.loop-node.place c.in-Some.node c.loop-node.part.items c.put.new.part.items c.loop-node.invariant.0 within c.loop-node.invariant.1 c.in_ok-put.ensures)

pub put-requires : goal.put-requires
put-requires c =
    let turn = YieldsList-turn (YieldsList-from_vec c.args.nodes.items (search rules) (search rules)) c.loop-node.yielded c.loop-node.node-iterator c.loop-node.yielded_by c.next.result c.next.new.self c.in-Some.node c.in-Some.is c.next.ensures.steps in
    subst (λ (node : Node). All (λ signal. IsPlaced (length c.args.places.now) signal.from) node.ins) (sym turn.1) (c.requires.placed (length c.loop-node.yielded) c.in-Some.node turn.0)
