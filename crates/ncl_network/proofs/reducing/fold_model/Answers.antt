use Rattle.ncl_network.proofs.Terms.{All, IsInOrder, IsNode, IsOrder, IsSome, Network, Option, Signal, Some, answer_of, ap, arith, dependency_graph, get, length, length-map, map, nat_cmp, subst, sym, weight_of_model, weight_of_network, ℕ, ◌∙◌, ◌≡◌, ◌≤◌}
use Rattle.ncl_network.proofs.Whole.{outputs_known, IsInOrder-whole, same-whole, weight-whole}
use Rattle.ncl_network.proofs.reducing.fold_model.Goals as goal
use Rattle.ncl_network.proofs.reducing.fold_model.Goals.{After-drop-order-2}

pub look_up-requires : goal.look_up-requires
look_up-requires c =
    let ordered : IsOrder (dependency_graph c.args.model.now.covers) c.deref.result.now = subst (IsOrder (dependency_graph c.args.model.now.covers)) (sym c.deref.ensures.value) c.in_ok-order.ensures in
    subst (All (λ name. IsSome (get nat_cmp c.in_ok-walk.walk.signals name))) (sym c.items.ensures)
    (outputs_known c.args.model.now c.requires c.deref.result.now ordered (get nat_cmp c.in_ok-walk.walk.signals) c.in_ok-walk.walk.nodes.items c.in_ok-walk.ensures)

known : After-drop-order-2 → ℕ → Option Signal
known c = get nat_cmp c.in_ok-walk.walk.signals

ordered : (c : After-drop-order-2) → IsOrder (dependency_graph c.args.model.now.covers) c.deref.result.now
ordered c =
    subst (IsOrder (dependency_graph c.args.model.now.covers)) (sym c.deref.ensures.value) c.in_ok-order.ensures

found : (c : After-drop-order-2) → map Some c.in_ok-outputs.outputs.items ≡ map (known c) c.args.model.now.outputs
unfolding known
found c = c.in_ok-outputs.ensures ∙ ap (map (get nat_cmp c.in_ok-walk.walk.signals)) c.items.ensures

is_whole : (c : After-drop-order-2) → ◌≡◌ {A = Network} (record { inputs = length c.items-2.result.now; nodes = c.from_vec.result; outputs = c.from_vec-2.result }) (record { inputs = length c.args.model.now.inputs; nodes = c.in_ok-walk.walk.nodes.items; outputs = c.in_ok-outputs.outputs.items })
is_whole c = λ i. record { inputs = length (c.items-2.ensures i); nodes = c.from_vec.ensures i; outputs = c.from_vec-2.ensures i }

pub returns-clause-ordered : goal.returns-clause-ordered
unfolding known
returns-clause-ordered c =
    subst IsInOrder (sym (is_whole c)) (IsInOrder-whole c.args.model.now c.requires c.deref.result.now (ordered c) (known c) c.in_ok-walk.walk.nodes.items c.in_ok-walk.ensures c.in_ok-outputs.outputs.items (found c))

pub returns-clause-same : goal.returns-clause-same
unfolding known
returns-clause-same c word answer gives =
    same-whole c.args.model.now c.requires c.deref.result.now (ordered c) (known c) c.in_ok-walk.walk.nodes.items c.in_ok-walk.ensures c.in_ok-outputs.outputs.items (found c) word answer gives
    ∙ ap (λ network. answer_of network word) (sym (is_whole c))

pub returns-clause-weight : goal.returns-clause-weight
unfolding known
returns-clause-weight c =
    subst (λ network. weight_of_network network ≤ weight_of_model c.args.model.now) (sym (is_whole c))
    (weight-whole c.args.model.now c.requires c.deref.result.now (ordered c) (known c) c.in_ok-walk.walk.nodes.items c.in_ok-walk.ensures c.in_ok-outputs.outputs.items)

pub walk_covers-requires-clause-order : goal.walk_covers-requires-clause-order
walk_covers-requires-clause-order c =
    subst (IsOrder (dependency_graph c.args.model.now.covers)) (sym c.deref.ensures.value) c.in_ok-order.ensures

pub overflow_cast-result : goal.overflow_cast-result
overflow_cast-result c = omega (arith, ap length c.items-2.ensures, c.requires.small)

pub returns-clause-nodes : goal.returns-clause-nodes
returns-clause-nodes c = subst (All IsNode) (sym c.from_vec.ensures) c.in_ok-walk.ensures.each

pub returns-clause-outputs : goal.returns-clause-outputs
unfolding known
returns-clause-outputs c =
    ap length c.from_vec-2.ensures ∙ sym (length-map c.in_ok-outputs.outputs.items Some) ∙ ap length (found c) ∙ length-map c.args.model.now.outputs (known c)
