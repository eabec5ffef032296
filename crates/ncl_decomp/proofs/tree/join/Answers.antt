use Rattle.ncl_decomp.proofs.Terms.{Signal, [], arith, common_steps, length, node_signal, pair_node, ◌++◌, ◌∙◌, ◌∷◌, ◌≡◌}
use Rattle.ncl_decomp.proofs.Queue.{IsGrowing-more, AddsTree-grown}
use Rattle.ncl_decomp.proofs.tree.join.Goals as goal

pub loop-at-preserved : goal.loop-at-preserved
loop-at-preserved c =
    let s : Signal = c.index.result.now in
    let t : Signal = c.index-in-loop-at.result.now in
    let node : c.in_ok-node.node ≡ pair_node c.args.joint s t = c.in_ok-node.ensures in
    let pushed : c.push.new.self.items ≡ c.loop-at.nodes.items ++ c.in_ok-node.node ∷ [] = grind (arith, common_steps) in
    let joined : c.push-in-loop-at.new.self.items ≡ c.loop-at.queue.items ++ node_signal (length c.loop-at.nodes.items) ∷ [] = grind (arith, common_steps) in
    IsGrowing-more c.args.joint c.args.leaves.items c.args.nodes.now.items c.loop-at.nodes.items c.loop-at.queue.items c.loop-at.at c.loop-at.invariant s t c.push.new.self.items c.push-in-loop-at.new.self.items (omega arith) c.index.ensures c.index-in-loop-at.ensures (pushed ∙ (λ i. c.loop-at.nodes.items ++ node i ∷ [])) joined

pub returns : goal.returns
returns c =
    AddsTree-grown c.args.joint c.args.leaves.items c.args.nodes.now.items c.loop-at.nodes.items c.loop-at.queue.items c.loop-at.at c.loop-at.invariant c.index-2.result.now (omega arith) c.index-2.ensures
