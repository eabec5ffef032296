-- Constant outputs become a node of value 1, inverted where the constant is 0.
use Rattle.ncl_rails.proofs.Terms.{All, All-cons, All-from_members, All-head, All-map, All-nil, All-push, All-tail, AnswersAs, Bool, Const, Contains-from_Member, Dash, FromNode, Input, IsNarrow, IsSource, IsSource-more, IsSplit, IsVarying, List, Member, Member-from_Contains, Member-map, Network, Node, ReadBefore-push, Signal, SignalSource, SourceReaches, [], answer_of, ap, arith, both_ways, cases_Bool, cases_lt, cond-false, cond-true, cost_of_inputs, cost_of_network, cost_of_nodes, cover_value, false, false≢true, get_or, get_or_push, here, if◌then◌else◌, inl, input_signal, inr, is_constant, length, length-map, length-node_values, length_push, list_any, list_any-from_member, map, member_from_list_any, most_cost, node_value, node_values, node_values-push, not, output, reader, refl, replaced, signal_value, signal_value-more, slice_get-append_left, subst, suc, sum_by, sum_by-cons, sum_by_push, sym, there, true, true_node, zero, ℕ, ◌*◌, ◌++◌, ◌+◌, ◌<◌, ◌∙◌, ◌∷◌, ◌≡◌, ◌≤◌}
use Rattle.ncl_rails.proofs.Lists.{at_member}
use Rattle.ncl_rails.proofs.Reaching.{source_reaches}

-- the network with that node
abbrev pub without_constants : Network → Network
without_constants network = record {
  inputs = network.inputs;
  nodes = network.nodes ++ true_node ∷ [];
  outputs = map (replaced (length network.nodes)) network.outputs;
}

true_value : (word bits : List Bool) → node_value word bits true_node ≡ true
true_value word bits = go (signal_value word bits (input_signal 0))
  where
    go : (a : Bool) → cover_value true ((Dash ∷ Dash ∷ []) ∷ []) (a ∷ a ∷ []) ≡ true
    go true = refl
    go false = refl

varied : (k : ℕ) (s : Signal) → is_constant s.from ≡ false → replaced k s ≡ s
varied k s e = cond-false (is_constant s.from) (record { from = FromNode k; inverted = not (signal_value [] [] s) }) s e

fixed : (k : ℕ) (s : Signal) → is_constant s.from ≡ true → replaced k s ≡ record { from = FromNode k; inverted = not (signal_value [] [] s) }
fixed k s e = cond-true (is_constant s.from) (record { from = FromNode k; inverted = not (signal_value [] [] s) }) s e

constant_value : (word bits : List Bool) (from : SignalSource) (inverted : Bool) → is_constant from ≡ true → signal_value word bits (record { from = from; inverted = inverted }) ≡ signal_value [] [] (record { from = from; inverted = inverted })
constant_value word bits (Input i) inverted e = absurd (both_ways false refl e)
constant_value word bits (FromNode k) inverted e = absurd (both_ways false refl e)
constant_value word bits (Const bit) inverted e = refl

-- the replaced signal has the same value, is not constant, and exists
replaced_value : (inputs : ℕ) (word bits : List Bool) (k : ℕ) (s : Signal) → length bits ≡ k → IsSource inputs k s.from → signal_value word (bits ++ true ∷ []) (replaced k s) ≡ signal_value word bits s
replaced_value inputs word bits k s len known =
    elim (cases_Bool (is_constant s.from)) [
      | inr e ↦ ap (signal_value word (bits ++ true ∷ [])) (varied k s e) ∙ signal_value-more inputs word bits (true ∷ []) s (subst (λ n. IsSource inputs n s.from) (sym len) known)
      | inl e ↦
          ap (signal_value word (bits ++ true ∷ [])) (fixed k s e)
          ∙ ap (λ b. if not (signal_value [] [] s) then not b else b) (get_or_push bits true false k len)
          ∙ turned (signal_value [] [] s)
          ∙ sym (constant_value word bits s.from s.inverted e)
    ]
  where
    turned : (b : Bool) → (if not b then not true else true) ≡ b
    turned true = refl
    turned false = refl

replaced_varies : (k : ℕ) (s : Signal) → is_constant (replaced k s).from ≡ false
replaced_varies k s =
    elim (cases_Bool (is_constant s.from)) [
      | inl e ↦ ap (λ (y : Signal). is_constant y.from) (fixed k s e)
      | inr e ↦ ap (λ (y : Signal). is_constant y.from) (varied k s e) ∙ e
    ]

replaced_exists : (inputs k : ℕ) (s : Signal) → IsSource inputs k s.from → IsSource inputs (k + 1) (replaced k s).from
replaced_exists inputs k s known =
    elim (cases_Bool (is_constant s.from)) [
      | inl e ↦ subst (λ (y : Signal). IsSource inputs (k + 1) y.from) (sym (fixed k s e)) (let last : k < k + 1 = omega arith in last)
      | inr e ↦ subst (λ (y : Signal). IsSource inputs (k + 1) y.from) (sym (varied k s e)) (IsSource-more inputs k (k + 1) s.from (omega arith) known)
    ]

replaced_values : (inputs : ℕ) (word bits : List Bool) (k : ℕ) (signals : List Signal) → length bits ≡ k → ((x : Signal) → Member x signals → IsSource inputs k x.from) → map (signal_value word (bits ++ true ∷ [])) (map (replaced k) signals) ≡ map (signal_value word bits) signals
replaced_values inputs word bits k [] len each = refl
replaced_values inputs word bits k (s ∷ signals) len each =
    let rest = replaced_values inputs word bits k signals len (λ x m. each x (there m)) in
    λ i. replaced_value inputs word bits k s len (each s here) i ∷ rest i

module _ (network : Network) (is : IsSplit network) where
  -- ---- a network without constant outputs

  pub varies_as_it_is : list_any (λ (signal : Signal). is_constant signal.from) network.outputs ≡ false → IsVarying network
  varies_as_it_is none = record {
    nodes = is.nodes;
    reads_before = is.reads_before;
    outputs_exist = is.outputs_exist;
    no_constant_output = All-from_members (λ (signal : Signal). is_constant signal.from ≡ false) network.outputs (λ signal m.
        elim (cases_Bool (is_constant signal.from)) [
          | inl e ↦ absurd (false≢true (sym none ∙ list_any-from_member (λ (s : Signal). is_constant s.from) signal m e))
          | inr e ↦ e
        ]);
    nodes_reach = λ k lt. source_reaches network k (is.reach k lt);
  }

  -- ---- one with some

  module _ (some : 0 < network.inputs) (constant : list_any (λ (signal : Signal). is_constant signal.from) network.outputs ≡ true) where
    after : Network
    after = without_constants network

    exists : (x : Signal) → Member x network.outputs → IsSource network.inputs (length network.nodes) x.from
    exists x m = at_member (λ (y : Signal). IsSource network.inputs (length network.nodes) y.from) network.outputs is.outputs_exist x (Contains-from_Member x m)

    -- what reached an output still does
    carried : (from : SignalSource) → is_constant from ≡ false → SourceReaches network from → SourceReaches after from
    unfolding after
    carried _ varies (output from signal among at) =
        let same = varied (length network.nodes) signal (ap is_constant at ∙ varies) in
        output from (replaced (length network.nodes) signal)
        (Contains-from_Member (replaced (length network.nodes) signal) (Member-map (replaced (length network.nodes)) signal (Member-from_Contains network.outputs signal among)))
        (ap (λ (y : Signal). y.from) same ∙ at)
    carried _ varies (reader from by node signal stands reads at reach) =
        reader from by node signal (slice_get-append_left network.nodes (true_node ∷ []) by node stands) reads at (carried (FromNode by) refl reach)

    -- and the new node does
    new_reaches : SourceReaches after (FromNode (length network.nodes))
    unfolding after
    new_reaches =
        let (s, m, e) = member_from_list_any (λ (signal : Signal). is_constant signal.from) network.outputs constant in
        output (FromNode (length network.nodes)) (replaced (length network.nodes) s)
        (Contains-from_Member (replaced (length network.nodes) s) (Member-map (replaced (length network.nodes)) s m))
        (ap (λ (y : Signal). y.from) (fixed (length network.nodes) s e))

    every_node : (k : ℕ) → k < length (network.nodes ++ true_node ∷ []) → SourceReaches after (FromNode k)
    every_node k lt =
        let count = length_push network.nodes true_node in
        elim (cases_lt k (length network.nodes)) [
          | inl old ↦ carried (FromNode k) refl (source_reaches network k (is.reach k old))
          | inr new ↦ let last : length network.nodes ≡ k = omega (arith, lt, count, new) in subst (λ n. SourceReaches after (FromNode n)) last new_reaches
        ]

    true_narrow : IsNarrow true_node
    true_narrow = record {
      two_inputs = omega arith;
      four_inputs = omega arith;
      no_constant = All-cons (λ (x : Signal). is_constant x.from ≡ false) (input_signal 0) (input_signal 0 ∷ []) refl (All-cons (λ (x : Signal). is_constant x.from ≡ false) (input_signal 0) [] refl (All-nil (λ (x : Signal). is_constant x.from ≡ false)));
      some_row = omega arith;
      row_widths = All-cons (λ row. length row ≡ 2) _ [] refl (All-nil (λ row. length row ≡ 2));
    }

    pub constants_gone : IsVarying (without_constants network)
    unfolding after
    constants_gone =
        let count : length (network.nodes ++ true_node ∷ []) ≡ length network.nodes + 1 = length_push network.nodes true_node in
        record {
          nodes = All-push IsNarrow network.nodes true_node is.nodes true_narrow;
          reads_before = ReadBefore-push network.inputs 0 network.nodes true_node is.reads_before
              (All-cons (λ (x : Signal). IsSource network.inputs (0 + length network.nodes) x.from) (input_signal 0) (input_signal 0 ∷ []) some
              (All-cons (λ (x : Signal). IsSource network.inputs (0 + length network.nodes) x.from) (input_signal 0) [] some (All-nil (λ (x : Signal). IsSource network.inputs (0 + length network.nodes) x.from))));
          outputs_exist = All-map (λ (x : Signal). IsSource network.inputs (length (network.nodes ++ true_node ∷ [])) x.from) (replaced (length network.nodes)) network.outputs
              (λ k d within. subst (λ n. IsSource network.inputs n (replaced (length network.nodes) (get_or network.outputs k d)).from) (sym count) (replaced_exists network.inputs (length network.nodes) (get_or network.outputs k d) (is.outputs_exist k d within)));
          no_constant_output = All-map (λ (x : Signal). is_constant x.from ≡ false) (replaced (length network.nodes)) network.outputs (λ k d within. replaced_varies (length network.nodes) (get_or network.outputs k d));
          nodes_reach = every_node;
        }

    same_answers : (word : List Bool) → answer_of (without_constants network) word ≡ answer_of network word
    same_answers word =
        let bits : List Bool = node_values word [] network.nodes in
        let known : length bits ≡ length network.nodes = omega (arith, length-node_values word [] network.nodes) in
        let whole : node_values word [] (network.nodes ++ true_node ∷ []) ≡ bits ++ true ∷ [] = node_values-push word [] network.nodes true_node ∙ ap (λ b. bits ++ b ∷ []) (true_value word bits) in
        ap (λ all. map (signal_value word all) (map (replaced (length network.nodes)) network.outputs)) whole
        ∙ replaced_values network.inputs word bits (length network.nodes) network.outputs known exists

    pub constant_answers : AnswersAs network (without_constants network)
    constant_answers = record {
      inputs = refl;
      outputs = length-map network.outputs (replaced (length network.nodes));
      same = same_answers;
    }

    pub constant_cost : cost_of_network (without_constants network) ≤ cost_of_network network + 2 * length network.outputs
    constant_cost =
        let weighs = sum_by_push (λ (node : Node). cost_of_inputs (length node.ins)) network.nodes true_node in
        let (s, m, e) = member_from_list_any (λ (signal : Signal). is_constant signal.from) network.outputs constant in
        let (k, lt, at) = Contains-from_Member s m in
        omega (arith, weighs, lt)

-- a network is as it is
pub AnswersAs-same : (network : Network) → AnswersAs network network
AnswersAs-same network = record { inputs = refl; outputs = refl; same = λ word. refl }

pub AnswersAs-then : (a b c : Network) → AnswersAs a b → AnswersAs b c → AnswersAs a c
AnswersAs-then a b c first second = record {
  inputs = second.inputs ∙ first.inputs;
  outputs = second.outputs ∙ first.outputs;
  same = λ word. second.same word ∙ first.same word;
}

-- ---- how many nodes

narrow_costs : (n : ℕ) → 2 ≤ n → n ≤ 4 → 2 ≤ cost_of_inputs n
narrow_costs zero two four = absurd (omega arith)
narrow_costs (suc zero) two four = absurd (omega arith)
narrow_costs (suc (suc zero)) two four = omega arith
narrow_costs (suc (suc (suc zero))) two four = omega arith
narrow_costs (suc (suc (suc (suc zero)))) two four = omega arith
narrow_costs (suc (suc (suc (suc (suc n))))) two four = absurd (omega arith)

twice_few : {X : Type 0} (f : X → ℕ) (xs : List X) → All (λ x. 2 ≤ f x) xs → 2 * length xs ≤ sum_by f xs
twice_few f [] each = omega arith
twice_few f (x ∷ xs) each =
    let first : 2 ≤ f x = All-head (λ x. 2 ≤ f x) x xs each in
    omega (arith, first, sum_by-cons f x xs, twice_few f xs (All-tail (λ x. 2 ≤ f x) x xs each))

-- each narrow node costs two or more
pub twice_nodes : (nodes : List Node) → All IsNarrow nodes → 2 * length nodes ≤ cost_of_nodes nodes
twice_nodes nodes narrow =
    twice_few (λ (node : Node). cost_of_inputs (length node.ins)) nodes (λ k d lt. narrow_costs (length (get_or nodes k d).ins) (narrow k d lt).two_inputs (narrow k d lt).four_inputs)

-- so a split network has few
pub few_nodes : (network : Network) → IsSplit network → 2 * length network.nodes ≤ most_cost
few_nodes network is = omega (arith, twice_nodes network.nodes is.nodes, is.cheap)
