use Rattle.ncl_network.proofs.Terms.{All, IsInOrder, IsPlaced, IsSource, Network, ReachesOutput, answer_of, ap, arith, get_or, length, length-map, map, moved_node, moved_signal, new_place, select, subst, sym, ℕ, ◌<◌, ◌∙◌, ◌≡◌, ◌≤◌}
use Rattle.ncl_network.proofs.Marking.{all_placed, nodes_placed}
use Rattle.ncl_network.proofs.Pruned.{pruned, same_answer, IsInOrder-pruned, each_reaches}
use Rattle.ncl_network.proofs.pruning.prune.Goals as goal
use Rattle.ncl_network.proofs.pruning.prune.Goals.{After-drop-kept-2}

pub kept_part-requires-clause-placed : goal.kept_part-requires-clause-placed
kept_part-requires-clause-placed c =
    let places : length c.args.network.nodes ≤ length c.deref-4.result.now =
    omega (arith, ap length c.deref-4.ensures.value, c.in_ok-places.ensures.length, ap length c.deref.ensures.value, c.in_ok-kept.ensures.as_many) in
    nodes_placed c.args.network c.into_vec.result.items (length c.deref-4.result.now) c.requires c.into_vec.ensures places

-- the number of a node among those that are kept
place_of : After-drop-kept-2 → ℕ → ℕ
place_of c k = get_or c.in_ok-places.places.items k 0

numbered : (c : After-drop-kept-2) (k : ℕ) → k < length c.in_ok-kept.kept.items → place_of c k ≡ new_place c.in_ok-kept.kept.items k
unfolding place_of
numbered c k within =
    let at : k < length c.deref.result.now = omega (arith, ap length c.deref.ensures.value) in
    c.in_ok-places.ensures.places k at ∙ ap (λ kept. new_place kept k) c.deref.ensures.value

-- what is returned is the network of the nodes that are kept
is_pruned : (c : After-drop-kept-2) → ◌≡◌ {A = Network} (record { inputs = c.args.network.inputs; nodes = c.from_vec.result; outputs = c.in_ok-outputs.outputs }) (pruned c.args.network c.in_ok-kept.kept.items (place_of c))
unfolding place_of
is_pruned c =
    let outputs : c.in_ok-outputs.outputs ≡ map (moved_signal (place_of c)) c.args.network.outputs =
    c.in_ok-outputs.ensures ∙ (λ i. map (moved_signal (λ k. get_or (c.deref-2.ensures.value i) k 0)) (c.items.ensures i)) in
    let nodes : c.from_vec.result ≡ map (moved_node (place_of c)) (select c.in_ok-kept.kept.items c.args.network.nodes) =
    c.from_vec.ensures ∙ c.in_ok-nodes.ensures
    ∙ (λ i. map (moved_node (λ k. get_or (c.deref-4.ensures.value i) k 0)) (select (c.deref-3.ensures.value i) (c.into_vec.ensures i))) in
    λ i. record { inputs = c.args.network.inputs; nodes = nodes i; outputs = outputs i }

pub returns-clause-ordered : goal.returns-clause-ordered
returns-clause-ordered c =
    subst IsInOrder (sym (is_pruned c)) (IsInOrder-pruned c.args.network c.in_ok-kept.kept.items (place_of c) (numbered c) c.requires c.in_ok-kept.ensures)

pub returns-clause-reach : goal.returns-clause-reach
returns-clause-reach c =
    subst (λ n. (k : ℕ) → k < length n.nodes → ReachesOutput n k) (sym (is_pruned c)) (each_reaches c.args.network c.in_ok-kept.kept.items (place_of c) (numbered c) c.requires c.in_ok-kept.ensures)

pub returns-clause-nodes : goal.returns-clause-nodes
returns-clause-nodes c = (c.in_ok-kept.kept.items, place_of c, ap (λ (n : Network). n.nodes) (is_pruned c))

pub returns-clause-same : goal.returns-clause-same
returns-clause-same c word =
    ap (λ network. answer_of network word) (is_pruned c)
    ∙ same_answer c.args.network c.in_ok-kept.kept.items (place_of c) (numbered c) c.requires c.in_ok-kept.ensures word

pub new_places-requires : goal.new_places-requires
new_places-requires c = omega (arith, ap length c.deref.ensures.value, c.in_ok-kept.ensures.as_many, c.requires.few)

pub moved_signals-requires : goal.moved_signals-requires
moved_signals-requires c =
    let count : length c.deref-2.result.now ≡ length c.args.network.nodes =
    ap length c.deref-2.ensures.value ∙ c.in_ok-places.ensures.length ∙ ap length c.deref.ensures.value ∙ c.in_ok-kept.ensures.as_many in
    subst (All (λ signal. IsPlaced (length c.deref-2.result.now) signal.from)) (sym c.items.ensures)
    (all_placed c.args.network.inputs (length c.deref-2.result.now) c.args.network.outputs
    (subst (λ n. All (λ signal. IsSource c.args.network.inputs n signal.from) c.args.network.outputs) (sym count) c.requires.outputs_exist))

pub kept_part-requires-clause-kept : goal.kept_part-requires-clause-kept
kept_part-requires-clause-kept c = ap length c.deref-3.ensures.value ∙ c.in_ok-kept.ensures.as_many ∙ sym (ap length c.into_vec.ensures)

pub returns-clause-outputs : goal.returns-clause-outputs
returns-clause-outputs c =
    ap length c.in_ok-outputs.ensures ∙ length-map c.items.result.now (moved_signal (λ k. get_or c.deref-2.result.now k 0)) ∙ ap length c.items.ensures
