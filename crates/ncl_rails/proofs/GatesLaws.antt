-- Gates of a network with the same answers.
use Rattle.ncl_rails.proofs.Terms.{AreGatesOf, CanHaveGates, GatesData, IsSameAs, IsSplit, List, Network, Rails, arith, cost_of_network, length, ◌*◌, ◌+◌, ◌∙◌, ◌≤◌}
use Rattle.ncl_rails.proofs.Replacing.{AnswersAs-then}

pub IsSameAs-then : (network other made : Network) → IsSameAs network other → IsSameAs other made → IsSameAs network made
IsSameAs-then network other made first second = record {
  inputs = second.inputs ∙ first.inputs;
  outputs = second.outputs ∙ first.outputs;
  same = λ word. second.same word ∙ first.same word;
}

module _ (network joined : Network) (same : IsSameAs network joined) where
  pub CanHaveGates-same : CanHaveGates network → IsSplit joined → CanHaveGates joined
  CanHaveGates-same can split = record {
    split = split;
    some_inputs = omega (arith, can.some_inputs, same.inputs);
    few_inputs = omega (arith, can.few_inputs, same.inputs);
    some_outputs = omega (arith, can.some_outputs, same.outputs);
    few_outputs = omega (arith, can.few_outputs, same.outputs);
  }

  -- they are gates of the network too, where they are few enough
  pub AreGatesOf-same : (gates : GatesData) (outs : List Rails) → AreGatesOf joined gates outs → length gates.cells ≤ cost_of_network network + 2 * network.inputs + 2 * length network.outputs → AreGatesOf network gates outs
  AreGatesOf-same gates outs are few = record {
    complete = are.complete;
    is = are.is;
    alike = AnswersAs-then network joined are.complete (record { inputs = same.inputs; outputs = same.outputs; same = same.same }) are.alike;
    waits = are.waits;
    covered = are.covered;
    laid = are.laid;
    few = few;
  }
