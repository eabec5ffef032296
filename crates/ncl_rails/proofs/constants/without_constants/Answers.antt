use Rattle.ncl_rails.proofs.Terms.{AnswersAs, IsVarying, Network, Signal, [], ap, arith, common_steps, cost_of_network, is_constant, length, list_any, map, replaced, subst, sym, true, true_node, ◌++◌, ◌∙◌, ◌∷◌, ◌≡◌}
use Rattle.ncl_rails.proofs.Replacing.{without_constants, varies_as_it_is, constants_gone, constant_answers, constant_cost, AnswersAs-same, few_nodes}
use Rattle.ncl_rails.proofs.constants.without_constants.Goals as goal
use Rattle.ncl_rails.proofs.constants.without_constants.Goals.{After-drop-outputs-inside-2}

pub returns-then-not-is_some_constant-clause-varying :
    goal.returns-then-not-is_some_constant-clause-varying
returns-then-not-is_some_constant-clause-varying c =
    subst IsVarying (sym c.in_ok-copy.ensures)
    (varies_as_it_is c.args.network.now c.requires.split (sym (ap (λ (n : Network). list_any (λ (s : Signal). is_constant s.from) n.outputs) c.in_ok-copy.ensures) ∙ sym (ap (list_any (λ (s : Signal). is_constant s.from)) c.items.ensures) ∙ sym c.is_some_constant.ensures ∙ c.if-not-is_some_constant.true))

pub returns-then-not-is_some_constant-clause-same :
    goal.returns-then-not-is_some_constant-clause-same
returns-then-not-is_some_constant-clause-same c =
    subst (AnswersAs c.args.network.now) (sym c.in_ok-copy.ensures) (AnswersAs-same c.args.network.now)

pub returns-then-not-is_some_constant-clause-cost :
    goal.returns-then-not-is_some_constant-clause-cost
returns-then-not-is_some_constant-clause-cost c = omega (arith, ap cost_of_network c.in_ok-copy.ensures)

pub overflow_cast-place : goal.overflow_cast-place
overflow_cast-place c =
    let same : length c.in_ok-copy.copy.nodes ≡ length c.args.network.now.nodes = ap (λ (n : Network). length n.nodes) c.in_ok-copy.ensures in
    let few = few_nodes c.args.network.now c.requires.split in
    omega (arith, same, few, c.len-place.ensures, ap length c.into_vec-nodes.ensures)

constant : (c : After-drop-outputs-inside-2) → list_any (λ (s : Signal). is_constant s.from) c.args.network.now.outputs ≡ true
constant c =
    sym (ap (λ (n : Network). list_any (λ (s : Signal). is_constant s.from) n.outputs) c.in_ok-copy.ensures) ∙ sym (ap (list_any (λ (s : Signal). is_constant s.from)) c.items.ensures) ∙ sym c.is_some_constant.ensures ∙ c.if-not-is_some_constant.false

made : (c : After-drop-outputs-inside-2) → ◌≡◌ {A = Network} (record { inputs = c.in_ok-copy.copy.inputs; nodes = c.from_vec.result; outputs = c.from_vec-2.result }) (without_constants c.args.network.now)
made c =
    let copy : ◌≡◌ {A = Network} c.in_ok-copy.copy c.args.network.now = c.in_ok-copy.ensures in
    let pushed : c.push.new.self.items ≡ c.into_vec-nodes.result.items ++ c.in_ok-node.node ∷ [] = grind (arith, common_steps) in
    let nodes : c.from_vec.result ≡ c.args.network.now.nodes ++ true_node ∷ [] = c.from_vec.ensures ∙ pushed ∙ (λ i. (c.into_vec-nodes.ensures ∙ ap (λ (n : Network). n.nodes) copy) i ++ c.in_ok-node.ensures i ∷ []) in
    let place : c.len-place.result ≡ length c.args.network.now.nodes = omega (arith, c.len-place.ensures, ap length c.into_vec-nodes.ensures, ap (λ (n : Network). length n.nodes) copy) in
    let outputs : c.from_vec-2.result ≡ map (replaced (length c.args.network.now.nodes)) c.args.network.now.outputs = c.from_vec-2.ensures ∙ c.in_ok-outputs.ensures ∙ (λ i. map (replaced (place i)) ((c.items-2.ensures ∙ ap (λ (n : Network). n.outputs) copy) i)) in
    λ i. record { inputs = (copy i).inputs; nodes = nodes i; outputs = outputs i }

pub returns-clause-varying : goal.returns-clause-varying
returns-clause-varying c = subst IsVarying (sym (made c)) (constants_gone c.args.network.now c.requires.split c.requires.some_input (constant c))

pub returns-clause-same : goal.returns-clause-same
returns-clause-same c = subst (AnswersAs c.args.network.now) (sym (made c)) (constant_answers c.args.network.now c.requires.split c.requires.some_input (constant c))

pub returns-clause-cost : goal.returns-clause-cost
returns-clause-cost c = omega (arith, ap cost_of_network (made c), constant_cost c.args.network.now c.requires.split c.requires.some_input (constant c))
