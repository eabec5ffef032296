-- Unread inputs are joined to the first output by nodes: a network becomes complete, and its answers stay.
use Rattle.ncl_rails.proofs.Terms.{AddsTree, All, All-append, All-cons, All-from_members, All-nil, AnswersAs, Bool, Contains, Contains-from_Member, FromNode, Input, IsComplete, IsNarrow, IsSource, IsSource-more, IsTreeOver, IsVarying, Join, List, Member, Member-from_Contains, Network, Node, NodeTree, ReadBefore, ReadBefore-append, Signal, SignalSource, Some, SourceReaches, [], answer_of, ap, append_assoc, arith, cases_Bool, cases_lt, cost_of_inputs, cost_of_network, cost_of_pairs, drop, false, get_or, get_or_push, here, inl, input_signal, inr, is_constant, is_input_read, join_value, length, length-append, length-node_values, map, member_cases, node_signal, node_value, node_values, node_values-append, output, pair_narrow, pair_node, reader, refl, set, signal_value, signals_kept, slice_get, slice_get-append_left, slice_get-append_right, subst, sum_by-append, sym, there, tree_nodes, tree_over, unread_signals, zero-add, ℕ, ◌*◌, ◌++◌, ◌+◌, ◌-◌, ◌<◌, ◌∙◌, ◌∷◌, ◌≡◌, ◌≤◌}
use Rattle.ncl_rails.proofs.Lists.{at_member, cut_first, set_first}
use Rattle.ncl_rails.proofs.Inputs.{unread_vary, unread_few, unread_has}
use Rattle.ncl_rails.proofs.Reaching.{read_reaches, tree_reaches, tree_nodes_reach, tree_of_two}

-- where no input is unread, each reaches an output
pub complete_as_it_is : (network : Network) → IsVarying network → unread_signals network ≡ [] → IsComplete network
complete_as_it_is network is none = record {
  varying = is;
  inputs_reach = λ i lt.
      elim (cases_Bool (is_input_read network i)) [
        | inl read ↦ read_reaches network is.nodes_reach i read
        | inr unread ↦ absurd (nothing (input_signal i) (subst (Member (input_signal i)) none (unread_has network i lt unread)))
      ];
}
  where
    nothing : (x : Signal) → Member x [] → ⊥
    nothing x m = elim m [ ]

-- ---- a tree over them, and a node that joins it to the first output

abbrev pub joined : Network → Signal → List Signal → List Node → Signal → Network
joined network first others tree root = record {
  inputs = network.inputs;
  nodes = network.nodes ++ (tree ++ pair_node Join first root ∷ []);
  outputs = node_signal (length network.nodes + length tree) ∷ others;
}

module _ (network : Network) (o : Signal) (os : List Signal) (outs : network.outputs ≡ o ∷ os) (tree : List Node) (root : Signal) (is_tree : NodeTree Join (length network.nodes) (unread_signals network) tree root) (is : IsVarying network) where
  after : Network
  after = joined network o os tree root

  over : IsTreeOver network.inputs (length network.nodes) (unread_signals network) tree root
  over = tree_over network.inputs Join (length network.nodes) (unread_signals network) tree root is_tree (unread_vary network)

  last_stands : slice_get after.nodes (length network.nodes + length tree) ≡ Some (pair_node Join o root)
  unfolding after
  last_stands =
      slice_get-append_right network.nodes (tree ++ pair_node Join o root ∷ []) (length tree) (pair_node Join o root)
      (subst (λ n. slice_get (tree ++ pair_node Join o root ∷ []) n ≡ Some (pair_node Join o root)) (let same : length tree + 0 ≡ length tree = omega arith in same) (slice_get-append_right tree (pair_node Join o root ∷ []) 0 (pair_node Join o root) refl))

  tree_stands : (i : ℕ) (node : Node) → slice_get tree i ≡ Some node → slice_get after.nodes (length network.nodes + i) ≡ Some node
  unfolding after
  tree_stands i node at = slice_get-append_right network.nodes (tree ++ pair_node Join o root ∷ []) i node (slice_get-append_left tree (pair_node Join o root ∷ []) i node at)

  last_reaches : SourceReaches after (FromNode (length network.nodes + length tree))
  unfolding after
  last_reaches = output (FromNode (length network.nodes + length tree)) (node_signal (length network.nodes + length tree)) (0, omega arith, refl) refl

  read_by_last : (x : Signal) → Contains (o ∷ root ∷ []) x → (from : SignalSource) → x.from ≡ from → SourceReaches after from
  read_by_last x m from at = reader from (length network.nodes + length tree) (pair_node Join o root) x last_stands m at last_reaches

  -- what reached an output still does
  carried : (from : SignalSource) → SourceReaches network from → SourceReaches after from
  unfolding after
  carried _ (output from signal among at) =
      elim (member_cases signal o os (subst (Member signal) outs (Member-from_Contains network.outputs signal among))) [
        | inl same ↦ read_by_last o (0, omega arith, refl) from (ap (λ (x : Signal). x.from) same ∙ at)
        | inr other ↦ output from signal (Contains-from_Member signal (there other)) at
      ]
  carried _ (reader from by node signal stands reads at reach) =
      reader from by node signal (slice_get-append_left network.nodes (tree ++ pair_node Join o root ∷ []) by node stands) reads at (carried (FromNode by) reach)

  root_reaches : SourceReaches after root.from
  root_reaches = read_by_last root (1, omega arith, refl) root.from refl

  o_exists : IsSource network.inputs (length network.nodes) o.from
  o_exists = at_member (λ (x : Signal). IsSource network.inputs (length network.nodes) x.from) network.outputs is.outputs_exist o (Contains-from_Member o (subst (Member o) (sym outs) here))

  other_exists : (x : Signal) → Member x os → IsSource network.inputs (length network.nodes) x.from
  other_exists x m = at_member (λ (y : Signal). IsSource network.inputs (length network.nodes) y.from) network.outputs is.outputs_exist x (Contains-from_Member x (subst (Member x) (sym outs) (there m)))

  varies : (x : Signal) → Member x (o ∷ os) → is_constant x.from ≡ false
  varies x m = at_member (λ (y : Signal). is_constant y.from ≡ false) network.outputs is.no_constant_output x (Contains-from_Member x (subst (Member x) (sym outs) m))

  all_nodes : length after.nodes ≡ (length network.nodes + length tree) + 1
  unfolding after
  all_nodes = omega (arith, length-append network.nodes (tree ++ pair_node Join o root ∷ []), length-append tree (pair_node Join o root ∷ []))

  narrow : All IsNarrow after.nodes
  unfolding after
  narrow =
      All-append IsNarrow network.nodes (tree ++ pair_node Join o root ∷ []) is.nodes
      (All-append IsNarrow tree (pair_node Join o root ∷ []) over.narrow
      (All-cons IsNarrow (pair_node Join o root) [] (pair_narrow Join o root (varies o here) over.varies) (All-nil IsNarrow)))

  order : ReadBefore network.inputs 0 after.nodes
  unfolding after
  order =
      let first : IsSource network.inputs (length network.nodes + length tree) o.from = IsSource-more network.inputs (length network.nodes) (length network.nodes + length tree) o.from (omega arith) o_exists in
      let both : All (λ (x : Signal). IsSource network.inputs (length network.nodes + length tree) x.from) (o ∷ root ∷ []) =
      All-cons (λ (x : Signal). IsSource network.inputs (length network.nodes + length tree) x.from) o (root ∷ []) first
      (All-cons (λ (x : Signal). IsSource network.inputs (length network.nodes + length tree) x.from) root [] over.exists (All-nil (λ (x : Signal). IsSource network.inputs (length network.nodes + length tree) x.from))) in
      ReadBefore-append network.inputs 0 network.nodes (tree ++ pair_node Join o root ∷ []) is.reads_before
      (subst (λ n. ReadBefore network.inputs n (tree ++ pair_node Join o root ∷ [])) (sym (zero-add (length network.nodes)))
      (ReadBefore-append network.inputs (length network.nodes) tree (pair_node Join o root ∷ []) over.reads_before (both, tt)))

  output_exists : (x : Signal) → Member x (node_signal (length network.nodes + length tree) ∷ os) → IsSource network.inputs (length after.nodes) x.from
  output_exists _ here = let count = all_nodes in omega (arith, count)
  output_exists x (there m) =
      let count = all_nodes in
      IsSource-more network.inputs (length network.nodes) (length after.nodes) x.from (omega (arith, count)) (other_exists x m)

  output_varies : (x : Signal) → Member x (node_signal (length network.nodes + length tree) ∷ os) → is_constant x.from ≡ false
  output_varies _ here = refl
  output_varies x (there m) = varies x (there m)

  every_node : (k : ℕ) → k < length after.nodes → SourceReaches after (FromNode k)
  every_node k lt =
      let count = all_nodes in
      elim (cases_lt k (length network.nodes)) [
        | inl old ↦ carried (FromNode k) (is.nodes_reach k old)
        | inr new ↦
            elim (cases_lt (k - length network.nodes) (length tree)) [
              | inl inside ↦
                  let place : length network.nodes + (k - length network.nodes) ≡ k = omega (arith, new) in
                  subst (λ n. SourceReaches after (FromNode n)) place
                  (tree_nodes_reach after Join (length network.nodes) (unread_signals network) tree root is_tree tree_stands root_reaches (k - length network.nodes) inside)
              | inr past ↦
                  let place : length network.nodes + length tree ≡ k = omega (arith, new, past, lt, count) in
                  subst (λ n. SourceReaches after (FromNode n)) place last_reaches
            ]
      ]

  every_input : (i : ℕ) → i < network.inputs → SourceReaches after (Input i)
  every_input i lt =
      elim (cases_Bool (is_input_read network i)) [
        | inl read ↦ carried (Input i) (read_reaches network is.nodes_reach i read)
        | inr unread ↦ tree_reaches after Join (length network.nodes) (unread_signals network) tree root is_tree tree_stands root_reaches (input_signal i) (unread_has network i lt unread)
      ]

  -- the joined network is complete
  pub joined_is_complete : IsComplete (joined network o os tree root)
  unfolding after
  joined_is_complete = record {
    varying = record {
      nodes = narrow;
      reads_before = order;
      outputs_exist = All-from_members (λ (x : Signal). IsSource network.inputs (length after.nodes) x.from) (node_signal (length network.nodes + length tree) ∷ os) output_exists;
      no_constant_output = All-from_members (λ (x : Signal). is_constant x.from ≡ false) (node_signal (length network.nodes + length tree) ∷ os) output_varies;
      nodes_reach = every_node;
    };
    inputs_reach = every_input;
  }

  -- gives the same answers
  same_answers : (word : List Bool) → answer_of (joined network o os tree root) word ≡ answer_of network word
  same_answers word =
      let bits : List Bool = node_values word [] network.nodes in
      let known : length bits ≡ length network.nodes = omega (arith, length-node_values word [] network.nodes) in
      let more_bits : List Bool = node_values word bits tree in
      let whole : node_values word [] (network.nodes ++ (tree ++ pair_node Join o root ∷ [])) ≡ node_values word bits (tree ++ pair_node Join o root ∷ []) = node_values-append word [] network.nodes (tree ++ pair_node Join o root ∷ []) in
      let pushed : node_values word bits (tree ++ pair_node Join o root ∷ []) ≡ more_bits ++ node_value word more_bits (pair_node Join o root) ∷ [] = node_values-append word bits tree (pair_node Join o root ∷ []) in
      let count : length more_bits ≡ length network.nodes + length tree = length-node_values word bits tree ∙ ap (λ n. n + length tree) known in
      let old_exist : All (λ (x : Signal). IsSource network.inputs (length bits) x.from) (o ∷ os) =
      subst (λ signals. All (λ (x : Signal). IsSource network.inputs (length bits) x.from) signals) outs
      (subst (λ n. All (λ (x : Signal). IsSource network.inputs n x.from) network.outputs) (sym known) is.outputs_exist) in
      let kept : map (signal_value word more_bits) (o ∷ os) ≡ map (signal_value word bits) (o ∷ os) = signals_kept network.inputs word bits tree (o ∷ os) old_exist in
      let all_kept : map (signal_value word (node_values word bits (tree ++ pair_node Join o root ∷ []))) (o ∷ os) ≡ map (signal_value word bits) (o ∷ os) = signals_kept network.inputs word bits (tree ++ pair_node Join o root ∷ []) (o ∷ os) old_exist in
      let first : signal_value word (node_values word [] (network.nodes ++ (tree ++ pair_node Join o root ∷ []))) (node_signal (length network.nodes + length tree)) ≡ signal_value word bits o =
      ap (λ all. get_or all (length network.nodes + length tree) false) (whole ∙ pushed)
      ∙ get_or_push more_bits (node_value word more_bits (pair_node Join o root)) false (length network.nodes + length tree) count
      ∙ join_value word more_bits o root
      ∙ heads kept in
      let rest : map (signal_value word (node_values word [] (network.nodes ++ (tree ++ pair_node Join o root ∷ [])))) os ≡ map (signal_value word bits) os =
      ap (λ all. map (signal_value word all) os) whole ∙ tails all_kept in
      (λ i. first i ∷ rest i) ∙ ap (map (signal_value word bits)) (sym outs)
    where
      heads : {x y : Bool} {xs ys : List Bool} → x ∷ xs ≡ y ∷ ys → x ≡ y
      heads e = cc

      tails : {x y : Bool} {xs ys : List Bool} → x ∷ xs ≡ y ∷ ys → xs ≡ ys
      tails e = cc

  pub joined_answers : AnswersAs network (joined network o os tree root)
  joined_answers = record {
    inputs = refl;
    outputs = sym (ap length outs);
    same = same_answers;
  }

  -- and costs two for each unread input
  pub joined_cost : cost_of_network (joined network o os tree root) ≤ cost_of_network network + 2 * network.inputs
  joined_cost =
      let whole = sum_by-append (λ (node : Node). cost_of_inputs (length node.ins)) network.nodes (tree ++ pair_node Join o root ∷ []) in
      let part = sum_by-append (λ (node : Node). cost_of_inputs (length node.ins)) tree (pair_node Join o root ∷ []) in
      let of_tree = cost_of_pairs tree over.pairs in
      let count = tree_nodes Join (length network.nodes) (unread_signals network) tree root is_tree in
      let few = unread_few network in
      omega (arith, whole, part, of_tree, count, few)

-- ---- two trees, and what becomes of the outputs

-- how many nodes there are after the first tree
pub tree_room : (network : Network) (unread : List Signal) (middle : List Node) (root : Signal) → unread ≡ unread_signals network → AddsTree Join unread network.nodes middle root → length middle + 1 ≤ length network.nodes + network.inputs
tree_room network unread middle root listed (tree, added, is_tree) =
    let count = tree_nodes Join (length network.nodes) unread tree root is_tree in
    omega (arith, count, ap length listed, unread_few network, ap length added, length-append network.nodes tree)

pub two_trees : (network : Network) → 0 < length network.outputs → (unread : List Signal) → unread ≡ unread_signals network → (middle nodes : List Node) (root new o : Signal) → (first : AddsTree Join unread network.nodes middle root) → o ≡ get_or network.outputs 0 o → AddsTree Join (o ∷ root ∷ []) middle nodes new → (outs : network.outputs ≡ o ∷ drop 1 network.outputs) × NodeTree Join (length network.nodes) (unread_signals network) first.0 root × ◌≡◌ {A = Network} (record { inputs = network.inputs; nodes = nodes; outputs = set network.outputs 0 new }) (joined network o (drop 1 network.outputs) first.0 root)
two_trees network some unread listed middle nodes root new o first at (made, added, is_made) =
    let is_tree : NodeTree Join (length network.nodes) (unread_signals network) first.0 root = subst (λ xs. NodeTree Join (length network.nodes) xs first.0 root) listed first.2 in
    let (only, last) = tree_of_two Join (length middle) (o ∷ root ∷ []) made new is_made o root refl in
    let place : length middle ≡ length network.nodes + length first.0 = ap length first.1 ∙ length-append network.nodes first.0 in
    let all : nodes ≡ network.nodes ++ (first.0 ++ pair_node Join o root ∷ []) = added ∙ (λ i. first.1 i ++ only i) ∙ append_assoc network.nodes first.0 (pair_node Join o root ∷ []) in
    let outputs : set network.outputs 0 new ≡ node_signal (length network.nodes + length first.0) ∷ drop 1 network.outputs = set_first network.outputs new some ∙ ap (λ s. s ∷ drop 1 network.outputs) (last ∙ ap node_signal place) in
    (cut_first network.outputs o some at, is_tree, λ i. record { inputs = network.inputs; nodes = all i; outputs = outputs i })
