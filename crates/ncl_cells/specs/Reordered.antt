-- Nodes of a network that stand in another order.
use Rattle.std.specs.Prelude.{◌≡◌, ℕ, ◌<◌, ◌^◌, List, [], Bool, false, Option, Some, None, length, All}
use Rattle.std.specs.List.{slice_index_or}
use Rattle.ncl_network.specs.declared.network.SignalSource.{SignalSource}
use Rattle.ncl_network.specs.declared.network.SignalSource.TheVariants.{Input, Node as FromNode, Const}
use Rattle.ncl_network.specs.declared.network.Signal.{Signal}
use Rattle.ncl_network.specs.declared.network.Node.{Node}
use Rattle.ncl_network.specs.declared.network.Network.{Network}
use Rattle.ncl_network.specs.Network.{node_values, ReadBefore}
use Rattle.ncl_decomp.specs.Split.{IsNarrow}
use Rattle.ncl_cells.specs.Remade.{bit_at}

-- a source of a network, where each of its nodes went to one of these places, or nowhere so far
abbrev pub IsMovedSource : List (Option ℕ) → SignalSource → SignalSource → Type 0
IsMovedSource places (Input i) found = found ≡ Input i
IsMovedSource places (FromNode k) found =
    (j : ℕ) × (slice_index_or places k None ≡ Some j) × (found ≡ FromNode j)
IsMovedSource places (Const bit) found = found ≡ Const bit

-- a signal of it
pub record IsMoved (places : List (Option ℕ)) (signal found : Signal) : Type 0 where
  pub source : IsMovedSource places signal.from found.from
  pub inverted : found.inverted ≡ signal.inverted

-- nodes are made so far, and nodes of a network went to these places among them: there the bits are the same
pub record AreMoved (network : Network) (nodes : List Node) (places : List (Option ℕ)) : Type 0 where
  pub narrow : All IsNarrow nodes
  pub reads_before : ReadBefore network.inputs 0 nodes
  pub few : length nodes < 2 ^ 32
  pub as_many : length places ≡ length network.nodes
  pub inside : (k j : ℕ) → slice_index_or places k None ≡ Some j → j < length nodes
  pub same : (word : List Bool) (k j : ℕ) → slice_index_or places k None ≡ Some j → slice_index_or (node_values word [] nodes) j false ≡ bit_at network word k
