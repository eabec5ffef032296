-- Which nodes of a network matter, and the network without the others.
use Rattle.std.specs.Prelude.{◌≡◌, ℕ, ◌<◌, ◌≤◌, ◌^◌, List, Bool, true, false, ◌==◌, Some, length, map, All, count_by, take, slice_get}
use Rattle.std.specs.List.{slice_index_or, list_any}
use Rattle.ncl_network.specs.declared.network.SignalSource.{SignalSource}
use Rattle.ncl_network.specs.declared.network.SignalSource.TheVariants.{Input, Node as FromNode, Const}
use Rattle.ncl_network.specs.declared.network.Signal.{Signal}
use Rattle.ncl_network.specs.declared.network.Node.{Node}
use Rattle.ncl_network.specs.declared.network.Network.{Network}
use Rattle.ncl_network.specs.Network.{IsSource, ReadBefore, ReachesOutput}
use Rattle.ncl_network.specs.Fold.{select}

-- a network whose nodes stand in order, each after those that it reads
pub record IsInOrder (network : Network) : Type 0 where
  pub reads_before : ReadBefore network.inputs 0 network.nodes
  pub outputs_exist : All (λ signal. IsSource network.inputs (length network.nodes) signal.from) network.outputs
  pub few : length network.nodes < 2 ^ 32

-- what is a node is one of so many
abbrev pub IsPlaced : ℕ → SignalSource → Type 0
IsPlaced count (Input i) = Unit {0}
IsPlaced count (FromNode k) = k < count
IsPlaced count (Const bit) = Unit {0}

-- whether a source is this node
abbrev pub is_node : ℕ → SignalSource → Bool
is_node k (Input i) = false
is_node k (FromNode j) = j == k
is_node k (Const bit) = false

-- whether some signal is of this node
abbrev pub is_read : List Signal → ℕ → Bool
is_read signals k = list_any (λ signal. is_node k signal.from) signals

-- whether a node is marked
abbrev pub is_kept : List Bool → ℕ → Bool
is_kept kept k = slice_index_or kept k false

-- which nodes are marked once those from a place on are looked at: what outputs and marked nodes among these
-- read, and no node that reaches no output
pub record IsMarked (network : Network) (kept : List Bool) (from : ℕ) : Type 0 where
  pub as_many : length kept ≡ length network.nodes
  pub outputs : (k : ℕ) → is_read network.outputs k ≡ true → is_kept kept k ≡ true
  pub reads : (k j : ℕ) (node : Node) → from ≤ j → slice_get network.nodes j ≡ Some node → is_kept kept j ≡ true → is_read node.ins k ≡ true → is_kept kept k ≡ true
  pub reach : (k : ℕ) → is_kept kept k ≡ true → ReachesOutput network k

-- how many marked nodes stand before a place
abbrev pub new_place : List Bool → ℕ → ℕ
new_place kept place = count_by (λ b. b) (take place kept)

-- a source in the network of the marked nodes
abbrev pub moved_source : (ℕ → ℕ) → SignalSource → SignalSource
moved_source places (Input i) = Input i
moved_source places (FromNode k) = FromNode (places k)
moved_source places (Const bit) = Const bit

abbrev pub moved_signal : (ℕ → ℕ) → Signal → Signal
moved_signal places signal = record { from = moved_source places signal.from; inverted = signal.inverted }

abbrev pub moved_node : (ℕ → ℕ) → Node → Node
moved_node places node = record { ins = map (moved_signal places) node.ins; on = node.on; rows = node.rows }

-- nodes that are left of others: some are dropped, and what the rest read goes by new numbers
abbrev pub AreLeft : List Node → List Node → Type 0
AreLeft nodes left =
    (kept : List Bool) × (places : ℕ → ℕ) × (left ≡ map (moved_node places) (select kept nodes))
