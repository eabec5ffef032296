-- Networks that are laid out by gates: one template for each node, over the pairs of what it reads.
use Rattle.std.specs.Prelude.{◌≡◌, ℕ, ◌+◌, ◌*◌, ◌≤◌, List, Bool, if◌then◌else◌, length, map, All, Contains, slice_get, Some}
use Rattle.std.specs.List.{slice_index_or, flat_map, range_with_len}
use Rattle.ncl_gates.specs.Gate.{arity_of}
use Rattle.ncl_netlist.specs.declared.ids.NetId.{NetId}
use Rattle.ncl_shape.specs.declared.rails.Rails.{Rails}
use Rattle.ncl_shape.specs.declared.stage.StageCell.{StageCell}
use Rattle.ncl_shape.specs.Stage.{IsInOrder, nets_of, rail_nets}
use Rattle.ncl_network.specs.declared.network.SignalSource.{SignalSource}
use Rattle.ncl_network.specs.declared.network.SignalSource.TheVariants.{Input, Node as FromNode, Const}
use Rattle.ncl_network.specs.declared.network.Signal.{Signal}
use Rattle.ncl_network.specs.declared.network.Node.{Node}
use Rattle.ncl_network.specs.declared.network.Network.{Network}
use Rattle.ncl_decomp.specs.Split.{cost_of_nodes}
use Rattle.ncl_tree.specs.Gates.{GatesData}
use Rattle.ncl_template.specs.Template.{node_function}
use Rattle.ncl_template.specs.Among.{IsTemplateAmong}

-- the nets of an input: rail 0 before rail 1, and inputs in their order
abbrev pub input_pair : ℕ → Rails
input_pair i = record { zero = record { 0 = 2 * i }; one = record { 0 = 2 * i + 1 } }

abbrev pub input_pairs : ℕ → List Rails
input_pairs inputs = map input_pair (range_with_len 0 inputs)

abbrev pub no_net : NetId
no_net = record { 0 = 0 }

abbrev pub no_rails : Rails
no_rails = record { zero = no_net; one = no_net }

-- the pair of a source, where inputs and nodes have these pairs
abbrev pub source_pair : List Rails → List Rails → SignalSource → Rails
source_pair inputs pairs (Input i) = slice_index_or inputs i no_rails
source_pair inputs pairs (FromNode k) = slice_index_or pairs k no_rails
source_pair inputs pairs (Const bit) = no_rails

-- a pair with its rails exchanged
abbrev pub exchanged : Rails → Rails
exchanged r = record { zero = r.one; one = r.zero }

-- the pair of a signal: that of its source, with its rails exchanged where the signal is inverted
abbrev pub signal_pair : List Rails → List Rails → Signal → Rails
signal_pair inputs pairs signal =
    if signal.inverted then exchanged (source_pair inputs pairs signal.from) else source_pair inputs pairs signal.from

-- nodes are laid out over input pairs, and show their bits at these pairs
pub record AreLaidOut (inputs : List Rails) (waits : ℕ → List Bool → ℕ → Bool) (nodes : List Node) (cells : List StageCell) (pairs : List Rails) : Type 0 where
  -- the cells are the gates of each node in turn
  pub parts : List (List StageCell)
  pub as_many : length parts ≡ length nodes
  pub pairs_as_many : length pairs ≡ length nodes
  pub joined : cells ≡ flat_map (λ part. part) parts
  -- which among all cells show its bit over the pairs of what it reads, and wait for some of these
  pub templates : (k : ℕ) (node : Node) (part : List StageCell) (pair : Rails) → slice_get nodes k ≡ Some node → slice_get parts k ≡ Some part → slice_get pairs k ≡ Some pair → IsTemplateAmong cells (node_function node) (map (signal_pair inputs pairs) node.ins) (waits k) part pair
  -- each gate has a net on each input pin, and reads only the inputs and gates before it, and some drive the pairs
  pub arities : All (λ (c : StageCell). length c.ins.items ≡ arity_of c.kind) cells
  pub in_order : IsInOrder inputs cells
  pub driven : All (Contains (nets_of inputs cells)) (rail_nets pairs)
  pub few : length cells ≤ cost_of_nodes nodes

-- a network is laid out by gates over the nets of its inputs, with pairs that show its outputs
pub record IsLaidOut (network : Network) (waits : ℕ → List Bool → ℕ → Bool) (gates : GatesData) (outs : List Rails) : Type 0 where
  pub pairs : List Rails
  pub first : gates.first ≡ 2 * network.inputs
  pub nodes : AreLaidOut (input_pairs network.inputs) waits network.nodes gates.cells pairs
  pub outputs : outs ≡ map (signal_pair (input_pairs network.inputs) pairs) network.outputs
