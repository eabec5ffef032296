-- All nodes of a network, one after another, and then the network without those that reach no output.
use Rattle.ncl_decomp.proofs.Terms.{AddsNode, All, AreLeft, AreSplit, Bool, IsInOrder, IsInOrder-network, IsNarrow, IsNetwork, IsNode, IsOfTwoOr, IsPlaced, IsSource, IsSplit, List, Network, Node, ReachesOutput, Signal, Some, [], all_placed, answer_of, ap, arith, cost_of_inputs, cost_of_nodes, get_or, image_of, inl, inr, length, length-map, length-take-le, map, most_size, moved_constant, moved_node, moved_signal, nat_tests, node_reads, node_values, slice_get-get_or, subst, sum_by-left, sum_by-take-le, sum_by_more, sym, take, take_more, weight_of_rows, ℕ, ◌*◌, ◌++◌, ◌+◌, ◌<◌, ◌∙◌, ◌∷◌, ◌≡◌, ◌≤◌}
use Rattle.ncl_network.proofs.Pruned.{All-left}
use Rattle.ncl_decomp.proofs.Walking.{image_values, images_exist, AreSplit-more}

-- ---- a node in its turn

module _ (network : Network) (is : IsNetwork network) (i : ℕ) (node : Node) (within : i < length network.nodes) (at : node ≡ get_or network.nodes i node) (nodes : List Node) (images : List Signal) (split : AreSplit network.inputs (take i network.nodes) nodes images) where
  done_count : length (take i network.nodes) ≡ i
  done_count = length-take-le i network.nodes (omega arith)

  turn_reads : All (λ (s : Signal). IsSource network.inputs i s.from) node.ins
  turn_reads =
      node_reads network i node (IsInOrder-network network is) (slice_get-get_or network.nodes i node within ∙ ap Some (sym at))

  pub turn_node : IsNode node
  turn_node = subst IsNode (sym at) (is.nodes i node within)

  pub turn_placed : All (λ (s : Signal). IsPlaced (length images) s.from) node.ins
  turn_placed =
      subst (λ n. All (λ (s : Signal). IsPlaced n s.from) node.ins) (sym (split.as_many ∙ done_count)) (all_placed network.inputs i node.ins turn_reads)

  pub turn_room : length nodes + weight_of_rows node.rows ≤ most_size
  turn_room =
      let upto = sum_by_more (λ (node : Node). weight_of_rows node.rows) network.nodes i node within in
      let here : weight_of_rows node.rows ≡ weight_of_rows (get_or network.nodes i node).rows = ap (λ (n : Node). weight_of_rows n.rows) at in
      omega (arith, split.few, upto, here, sum_by-take-le (λ (node : Node). weight_of_rows node.rows) network.nodes (i + 1), is.small)

  pub turn_split : (ins : List Signal) (new : List Node) (image : Signal) (longer : List Signal) → ins ≡ map (image_of images) node.ins → AddsNode ins node nodes new image → longer ≡ images ++ image ∷ [] → AreSplit network.inputs (take (i + 1) network.nodes) new longer
  turn_split ins new image longer same adds pushed =
      let upto : take (i + 1) network.nodes ≡ take i network.nodes ++ node ∷ [] = take_more network.nodes i node within ∙ (λ j. take i network.nodes ++ sym at j ∷ []) in
      subst (λ done. AreSplit network.inputs done new longer) (sym upto)
      (AreSplit-more network.inputs (take i network.nodes) nodes images split node ins new image same (subst (λ n. All (λ (s : Signal). IsSource network.inputs n s.from) node.ins) (sym done_count) turn_reads) turn_node.no_constant adds longer pushed)

-- ---- all of them

module _ (network : Network) (is : IsNetwork network) (nodes : List Node) (images : List Signal) (split : AreSplit network.inputs network.nodes nodes images) where
  pub outputs_placed : All (λ (s : Signal). IsPlaced (length images) s.from) network.outputs
  outputs_placed =
      subst (λ n. All (λ (s : Signal). IsPlaced n s.from) network.outputs) (sym split.as_many) (all_placed network.inputs (length network.nodes) network.outputs is.outputs_exist)

  pub IsInOrder-split : IsInOrder (record { inputs = network.inputs; nodes = nodes; outputs = map (image_of images) network.outputs })
  IsInOrder-split = record {
    reads_before = split.reads_before;
    outputs_exist = images_exist network.inputs (length nodes) images network.outputs split.varying (subst (λ n. All (λ (s : Signal). IsSource network.inputs n s.from) network.outputs) (sym split.as_many) is.outputs_exist);
    few = omega (arith, split.few, is.small);
  }

  pub same_split : (word : List Bool) → answer_of (record { inputs = network.inputs; nodes = nodes; outputs = map (image_of images) network.outputs }) word ≡ answer_of network word
  same_split word =
      image_values word (node_values word [] network.nodes) (node_values word [] nodes) images network.outputs (split.values word)

-- ---- without what reaches no output

IsNarrow-moved : (places : ℕ → ℕ) (node : Node) → IsNarrow node → IsNarrow (moved_node places node)
IsNarrow-moved places node is =
    let width = length-map node.ins (moved_signal places) in
    record {
      two_inputs = omega (arith, is.two_inputs);
      four_inputs = omega (arith, is.four_inputs);
      no_constant = moved_constant places node.ins is.no_constant;
      some_row = is.some_row;
      row_widths = subst (λ n. All (λ row. length row ≡ n) node.rows) (sym width) is.row_widths;
    }

pub narrow_left : (nodes left : List Node) → AreLeft nodes left → All IsNarrow nodes → All IsNarrow left
narrow_left = All-left IsNarrow IsNarrow-moved

kinds_moved : (nodes : List Node) (places : ℕ → ℕ) (node : Node) → IsOfTwoOr nodes node → IsOfTwoOr nodes (moved_node places node)
kinds_moved nodes places node (inl two) = inl (length-map node.ins (moved_signal places) ∙ two)
kinds_moved nodes places node (inr (from, among, kept)) =
    inr (from, among, record { inputs = length-map node.ins (moved_signal places) ∙ kept.inputs; on = kept.on; rows = kept.rows })

pub kinds_left : (old nodes left : List Node) → AreLeft nodes left → All (IsOfTwoOr old) nodes → All (IsOfTwoOr old) left
kinds_left old = All-left (IsOfTwoOr old) (kinds_moved old)

-- a narrow node costs two cells or more
pub IsNarrow-cost : (node : Node) → IsNarrow node → 2 ≤ cost_of_inputs (length node.ins)
IsNarrow-cost node is = some_cost (length node.ins) is.two_inputs is.four_inputs
  where
    some_cost : (n : ℕ) → 2 ≤ n → n ≤ 4 → 2 ≤ cost_of_inputs n
    some_cost n two four = grind (arith, nat_tests)

pub cost_left : (nodes left : List Node) → AreLeft nodes left → cost_of_nodes left ≤ cost_of_nodes nodes
cost_left =
    sum_by-left (λ (node : Node). cost_of_inputs (length node.ins)) (λ places node.
    let same : cost_of_inputs (length (moved_node places node).ins) ≡ cost_of_inputs (length node.ins) = ap cost_of_inputs (length-map node.ins (moved_signal places)) in omega (arith, same))

pub IsSplit-left : (nodes : List Node) (network : Network) (weight : ℕ) → IsInOrder network → ((k : ℕ) → k < length network.nodes → ReachesOutput network k) → AreLeft nodes network.nodes → All IsNarrow nodes → cost_of_nodes nodes ≤ 5 * weight → weight ≤ most_size → IsSplit network
IsSplit-left nodes network weight ordered reach left narrow cost small = record {
  nodes = narrow_left nodes network.nodes left narrow;
  reads_before = ordered.reads_before;
  outputs_exist = ordered.outputs_exist;
  reach = reach;
  cheap = omega (arith, cost_left nodes network.nodes left, cost, small);
}
