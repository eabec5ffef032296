use Rattle.ncl_decomp.proofs.Terms.{All, AreSplit, IsInOrder, IsOfTwoOr, IsPlaced, Network, Signal, answer_of, ap, get_or, image_of, length, map, subst, sym, take, take_all, ◌+◌, ◌<◌, ◌∙◌, ◌≡◌}
use Rattle.ncl_decomp.proofs.Whole.{turn_placed, turn_split, IsInOrder-split, same_split}
use Rattle.ncl_decomp.proofs.splitting.decompose.Goals as goal
use Rattle.ncl_decomp.proofs.splitting.decompose.Goals.{After-drop-images-2}

pub images_of-requires : goal.images_of-requires
images_of-requires c =
    subst (λ images. All (λ (s : Signal). IsPlaced (length images) s.from) c.items.result.now) (sym c.deref.ensures.value)
    (subst (All (λ (s : Signal). IsPlaced (length c.loop-node.images.items) s.from)) (sym c.items.ensures)
    (turn_placed c.args.network.now c.requires c.loop-node.node-index c.node-item.result
    (subst (λ nodes. c.loop-node.node-index < length nodes) c.items-node-items.ensures c.loop-node-test.true)
    (c.node-item.is ∙ ap (λ nodes. get_or nodes c.loop-node.node-index c.node-item.result) c.items-node-items.ensures)
    c.loop-node.nodes.items c.loop-node.images.items
    (subst (λ nodes. AreSplit c.args.network.now.inputs (take c.loop-node.node-index nodes) c.loop-node.nodes.items c.loop-node.images.items) c.items-node-items.ensures c.loop-node.invariant)))

pub loop-node-preserved : goal.loop-node-preserved
loop-node-preserved c =
    let ins : c.in_ok-ins.ins.items ≡ map (image_of c.loop-node.images.items) c.node-item.result.ins =
    c.in_ok-ins.ensures ∙ (λ i. map (image_of (c.deref.ensures.value i)) (c.items.ensures i)) in
    subst (λ nodes. AreSplit c.args.network.now.inputs (take (c.loop-node.node-index + 1) nodes) c.split_node.new.nodes.items c.push.new.self.items) (sym c.items-node-items.ensures)
    (turn_split c.args.network.now c.requires c.loop-node.node-index c.node-item.result
    (subst (λ nodes. c.loop-node.node-index < length nodes) c.items-node-items.ensures c.loop-node-test.true)
    (c.node-item.is ∙ ap (λ nodes. get_or nodes c.loop-node.node-index c.node-item.result) c.items-node-items.ensures)
    c.loop-node.nodes.items c.loop-node.images.items
    (subst (λ nodes. AreSplit c.args.network.now.inputs (take c.loop-node.node-index nodes) c.loop-node.nodes.items c.loop-node.images.items) c.items-node-items.ensures c.loop-node.invariant)
    c.in_ok-ins.ins.items c.split_node.new.nodes.items c.in_ok-image.image c.push.new.self.items ins c.in_ok-image.ensures c.in_ok-push.ensures.items)

-- the whole
all : (c : After-drop-images-2) → AreSplit c.args.network.now.inputs c.args.network.now.nodes c.loop-node.nodes.items c.loop-node.images.items
all c =
    subst (λ nodes. AreSplit c.args.network.now.inputs nodes c.loop-node.nodes.items c.loop-node.images.items) (take_all c.loop-node.node-index c.items-node-items.result.now c.loop-node-test.false ∙ c.items-node-items.ensures) c.loop-node.invariant

made : (c : After-drop-images-2) → ◌≡◌ {A = Network} (record { inputs = c.args.network.now.inputs; nodes = c.from_vec.result; outputs = c.from_vec-2.result }) (record { inputs = c.args.network.now.inputs; nodes = c.loop-node.nodes.items; outputs = map (image_of c.loop-node.images.items) c.args.network.now.outputs })
made c =
    let outputs : c.from_vec-2.result ≡ map (image_of c.loop-node.images.items) c.args.network.now.outputs =
    c.from_vec-2.ensures ∙ c.in_ok-outputs.ensures ∙ (λ i. map (image_of (c.deref-2.ensures.value i)) (c.items-2.ensures i)) in
    λ i. record { inputs = c.args.network.now.inputs; nodes = c.from_vec.ensures i; outputs = outputs i }

pub returns-clause-ordered : goal.returns-clause-ordered
returns-clause-ordered c =
    subst IsInOrder (sym (made c)) (IsInOrder-split c.args.network.now c.requires c.loop-node.nodes.items c.loop-node.images.items (all c))

pub returns-clause-kinds : goal.returns-clause-kinds
returns-clause-kinds c = subst (All (IsOfTwoOr c.args.network.now.nodes)) (sym c.from_vec.ensures) (all c).kinds

pub returns-clause-same : goal.returns-clause-same
returns-clause-same c word =
    ap (λ network. answer_of network word) (made c) ∙ same_split c.args.network.now c.requires c.loop-node.nodes.items c.loop-node.images.items (all c) word
