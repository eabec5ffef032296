-- Gates that compute a network.
use Rattle.std.specs.Prelude.{ℕ, ◌+◌, ◌*◌, ◌≤◌, List, Bool, length}
use Rattle.ncl_base.specs.declared.word.TheConstants.{MOST_BITS}
use Rattle.ncl_shape.specs.declared.rails.Rails.{Rails}
use Rattle.ncl_network.specs.declared.network.Network.{Network}
use Rattle.ncl_decomp.specs.Split.{IsSplit, cost_of_network}
use Rattle.ncl_tree.specs.Gates.{GatesData}
use Rattle.ncl_rails.specs.Complete.{IsComplete, AnswersAs}
use Rattle.ncl_rails.specs.Waiting.{IsCovered}
use Rattle.ncl_rails.specs.Layout.{IsLaidOut}

-- a split network of 1 to 128 inputs and outputs
pub record CanHaveGates (network : Network) : Type 0 where
  pub split : IsSplit network
  pub some_inputs : 1 ≤ network.inputs
  pub few_inputs : network.inputs ≤ MOST_BITS
  pub some_outputs : 1 ≤ length network.outputs
  pub few_outputs : length network.outputs ≤ MOST_BITS

-- gates that a complete network with the answers of this one is laid out by, whose nodes wait for enough, and which
-- are no more than this one costs, with two for each input and output
pub record AreGatesOf (network : Network) (gates : GatesData) (outs : List Rails) : Type 0 where
  pub complete : Network
  pub is : IsComplete complete
  pub alike : AnswersAs network complete
  pub waits : ℕ → List Bool → ℕ → Bool
  pub covered : IsCovered complete waits
  pub laid : IsLaidOut complete waits gates outs
  pub few : length gates.cells ≤ cost_of_network network + 2 * network.inputs + 2 * length network.outputs
