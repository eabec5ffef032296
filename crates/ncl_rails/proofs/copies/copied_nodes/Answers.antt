use Rattle.ncl_rails.proofs.Terms.{Node, [], sym, take_all, take_more, ◌++◌, ◌∙◌, ◌∷◌, ◌≡◌}
use Rattle.ncl_rails.proofs.copies.copied_nodes.Goals as goal

pub loop-node-preserved : goal.loop-node-preserved
loop-node-preserved c =
    let nodes = c.args.nodes.now in
    let i = c.loop-node.node-index in
    let node : Node = c.node-item.result in
    let ins : c.from_vec.result ≡ node.ins = c.from_vec.ensures ∙ c.in_ok-ins.ensures.items_if_clones_equal (λ x y is. is) ∙ c.items.ensures in
    let rows : c.in_ok-rows.rows ≡ node.rows = c.in_ok-rows.ensures ∙ c.items-in-loop-node.ensures in
    c.in_ok-push.ensures.items ∙ (λ j. c.loop-node.copy.items ++ record { ins = ins j; on = node.on; rows = rows j } ∷ []) ∙ (λ j. c.loop-node.invariant j ++ c.node-item.is j ∷ []) ∙ sym (take_more nodes i node c.loop-node-test.true)

pub returns : goal.returns
returns c = c.loop-node.invariant ∙ take_all c.loop-node.node-index c.args.nodes.now c.loop-node-test.false
