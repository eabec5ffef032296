-- Nodes that take the places of others.
use Rattle.std.specs.Prelude.{◌≡◌, ℕ, List, Bool, false, map, All, slice_get, Some}
use Rattle.ncl_blif.specs.Meaning.{cover_value}
use Rattle.ncl_network.specs.declared.network.SignalSource.{SignalSource}
use Rattle.ncl_network.specs.declared.network.SignalSource.TheVariants.{Node as FromNode}
use Rattle.ncl_network.specs.declared.network.Signal.{Signal}
use Rattle.ncl_network.specs.declared.network.Node.{Node}
use Rattle.ncl_network.specs.declared.network.Network.{Network}
use Rattle.ncl_network.specs.Network.{IsSource, ReadBefore, is_constant}
use Rattle.ncl_decomp.specs.Split.{IsNarrow}
use Rattle.ncl_plans.specs.declared.cone.Leaves.{Leaves}
use Rattle.ncl_plans.specs.Cones.{signal_in, Respects, leaf_bits}

-- a signal is of an input or of a node before a place
pub record VariesBefore (inputs place : ℕ) (signal : Signal) : Type 0 where
  pub there : IsSource inputs place signal.from
  pub varies : is_constant signal.from ≡ false

-- a narrow node that reads only inputs and nodes before a place
pub record MayRead (inputs place : ℕ) (node : Node) : Type 0 where
  pub narrow : IsNarrow node
  pub before : All (λ signal. IsSource inputs place signal.from) node.ins

-- a node gives the bit of the node at a place, whatever bits respect the nodes
abbrev pub Agrees : List Node → ℕ → Node → Type 0
Agrees nodes k node =
    (value : SignalSource → Bool) → Respects nodes value → value (FromNode k) ≡ cover_value node.on node.rows (map (signal_in value) node.ins)

-- it does where four leaves have the bits of a word
abbrev pub AgreesAt : List Node → ℕ → Leaves → Node → List Bool → Type 0
AgreesAt nodes k leaves node word =
    (value : SignalSource → Bool) → Respects nodes value → leaf_bits value leaves ≡ word → value (FromNode k) ≡ cover_value node.on node.rows (map (signal_in value) node.ins)

-- a node may take the place of the one that stands there: it reads what it may, and gives its bit
pub record MayStand (network : Network) (k : ℕ) (node : Node) : Type 0 where
  pub reads : MayRead network.inputs k node
  pub agrees : Agrees network.nodes k node

-- nodes may take the places of those of a network
pub record AreRecast (network : Network) (nodes : List Node) : Type 0 where
  pub narrow : All IsNarrow nodes
  pub reads_before : ReadBefore network.inputs 0 nodes
  pub agree : (k : ℕ) (node : Node) → slice_get nodes k ≡ Some node → Agrees network.nodes k node
