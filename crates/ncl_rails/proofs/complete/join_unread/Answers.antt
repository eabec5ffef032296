use Rattle.ncl_rails.proofs.Terms.{AddsTree, AnswersAs, IsComplete, Join, List, Network, NodeTree, Signal, [], ap, arith, cost_of_network, drop, eqb-true, get_or, length, refl, set, subst, sym, unread_signals, ◌∙◌, ◌∷◌, ◌≡◌}
use Rattle.ncl_rails.proofs.Inputs.{unread_few}
use Rattle.ncl_rails.proofs.Joining.{complete_as_it_is, tree_room, two_trees, joined, joined_is_complete, joined_answers, joined_cost}
use Rattle.ncl_rails.proofs.complete.join_unread.Goals as goal
use Rattle.ncl_rails.proofs.complete.join_unread.Goals.{After-from_vec-2}

empty : {X : Type 0} (xs : List X) → length xs ≡ 0 → xs ≡ []
empty [] none = refl
empty (x ∷ xs) none = absurd (omega (arith, none))

pub returns-then-is_empty-clause-complete : goal.returns-then-is_empty-clause-complete
returns-then-is_empty-clause-complete c =
    let none : length c.in_ok-unread.unread.items ≡ 0 = omega (arith, eqb-true _ _ (sym c.is_empty.ensures ∙ c.if-is_empty.true)) in
    complete_as_it_is c.args.network c.requires.varying (sym c.in_ok-unread.ensures ∙ empty c.in_ok-unread.unread.items none)

pub join-requires-clause-few : goal.join-requires-clause-few
join-requires-clause-few c =
    omega (arith, ap length c.into_vec-nodes.ensures, ap length c.in_ok-unread.ensures, unread_few c.args.network, c.requires.room)

-- the first tree, over the nodes that there were
first : (c : After-from_vec-2) → AddsTree Join c.in_ok-unread.unread.items c.args.network.nodes c.join.new.nodes.items c.in_ok-all.all
first c = subst (λ nodes. AddsTree Join c.in_ok-unread.unread.items nodes c.join.new.nodes.items c.in_ok-all.all) c.into_vec-nodes.ensures c.in_ok-all.ensures

pub join-requires-2-clause-few : goal.join-requires-2-clause-few
join-requires-2-clause-few c =
    let tree : AddsTree Join c.in_ok-unread.unread.items c.args.network.nodes c.join.new.nodes.items c.in_ok-all.all = subst (λ nodes. AddsTree Join c.in_ok-unread.unread.items nodes c.join.new.nodes.items c.in_ok-all.all) c.into_vec-nodes.ensures c.in_ok-all.ensures in
    omega (arith, tree_room c.args.network c.in_ok-unread.unread.items c.join.new.nodes.items c.in_ok-all.all c.in_ok-unread.ensures tree, ap length c.in_ok-first.ensures.items, c.requires.room)

o : After-from_vec-2 → Signal
o c = c.index.result.now

parts : (c : After-from_vec-2) → (outs : c.args.network.outputs ≡ o c ∷ drop 1 c.args.network.outputs) × NodeTree Join (length c.args.network.nodes) (unread_signals c.args.network) (first c).0 c.in_ok-all.all × ◌≡◌ {A = Network} (record { inputs = c.args.network.inputs; nodes = c.from_vec.result; outputs = c.from_vec-2.result }) (joined c.args.network (o c) (drop 1 c.args.network.outputs) (first c).0 c.in_ok-all.all)
unfolding o
parts c =
    let at : o c ≡ get_or c.args.network.outputs 0 (o c) = c.index.ensures ∙ ap (λ xs. get_or xs 0 (o c)) c.into_vec-outputs.ensures in
    let second : AddsTree Join (o c ∷ c.in_ok-all.all ∷ []) c.join.new.nodes.items c.join-2.new.nodes.items c.in_ok-outputs.field-0 = subst (λ xs. AddsTree Join xs c.join.new.nodes.items c.join-2.new.nodes.items c.in_ok-outputs.field-0) c.in_ok-first.ensures.items c.in_ok-outputs.ensures in
    let (outs, is_tree, made) = two_trees c.args.network c.requires.some_output c.in_ok-unread.unread.items c.in_ok-unread.ensures c.join.new.nodes.items c.join-2.new.nodes.items c.in_ok-all.all c.in_ok-outputs.field-0 (o c) (first c) at second in
    let set_at : c.from_vec-2.result ≡ set c.args.network.outputs 0 c.in_ok-outputs.field-0 = c.from_vec-2.ensures ∙ ap (λ xs. set xs 0 c.in_ok-outputs.field-0) c.into_vec-outputs.ensures in
    (outs, is_tree, (λ i. record { inputs = c.args.network.inputs; nodes = c.from_vec.ensures i; outputs = set_at i }) ∙ made)

pub returns-clause-complete : goal.returns-clause-complete
returns-clause-complete c =
    subst IsComplete (sym (parts c).2) (joined_is_complete c.args.network (o c) (drop 1 c.args.network.outputs) (parts c).0 (first c).0 c.in_ok-all.all (parts c).1 c.requires.varying)

pub returns-clause-same : goal.returns-clause-same
returns-clause-same c =
    subst (AnswersAs c.args.network) (sym (parts c).2) (joined_answers c.args.network (o c) (drop 1 c.args.network.outputs) (parts c).0 (first c).0 c.in_ok-all.all (parts c).1 c.requires.varying)

pub returns-clause-cost : goal.returns-clause-cost
returns-clause-cost c =
    omega (arith, ap cost_of_network (parts c).2, joined_cost c.args.network (o c) (drop 1 c.args.network.outputs) (parts c).0 (first c).0 c.in_ok-all.all (parts c).1 c.requires.varying)
