-- The network of all nodes that the covers of a model fold into.
use Rattle.ncl_network.proofs.Terms.{All, Bool, Gives, IsInOrder, IsModel, IsOrder, IsSome, IsSource, IsWalked, List, Model, Node, Option, Signal, Some, [], arith, dependency_graph, length, map, node_values, signal_value, sym, weight_of_model, weight_of_network, ℕ, ◌∙◌, ◌≡◌, ◌≤◌}
use Rattle.ncl_network.proofs.Walking.{found_all, found_bits}
use Rattle.ncl_network.proofs.CoverOrder.{covers_few, done_weight, all_known, length-order, places-order}

module _ (model : Model) (fine : IsModel model) (order : List ℕ) (ordered : IsOrder (dependency_graph model.covers) order) (known : ℕ → Option Signal) (nodes : List Node) (walked : IsWalked model known nodes order) where
  pub outputs_known : All (λ name. IsSome (known name)) model.outputs
  outputs_known k d within = all_known model known nodes order _ fine ordered walked (fine.outputs_driven k d within)

  pub IsInOrder-whole : (outputs : List Signal) → map Some outputs ≡ map known model.outputs → IsInOrder (record { inputs = length model.inputs; nodes = nodes; outputs = outputs })
  IsInOrder-whole outputs found = record {
    reads_before = walked.reads_before;
    outputs_exist = found_all known (λ signal. IsSource (length model.inputs) (length nodes) signal.from) walked.sources model.outputs outputs found;
    few = omega (arith, walked.few, length-order model order ordered, covers_few model, fine.small);
  }

  pub same-whole : (outputs : List Signal) → map Some outputs ≡ map known model.outputs → (word answer : List Bool) → Gives model word answer → answer ≡ map (signal_value word (node_values word [] nodes)) outputs
  same-whole outputs found word answer (bits, fits, is) =
      is ∙ sym (found_bits known (signal_value word (node_values word [] nodes)) bits (walked.values word bits fits) model.outputs outputs found)

  pub weight-whole : (outputs : List Signal) → weight_of_network (record { inputs = length model.inputs; nodes = nodes; outputs = outputs }) ≤ weight_of_model model
  weight-whole outputs = omega (arith, walked.weight, done_weight model.covers order ordered.once (places-order model order ordered))
