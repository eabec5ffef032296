-- The nodes of a network as signals of small nodes.
use Rattle.std.specs.Prelude.{◌≡◌, ℕ, ◌<◌, List, [], ◌∷◌, Bool, false, length, map, All, slice_get, Some}
use Rattle.std.specs.List.{slice_index_or}
use Rattle.ncl_network.specs.declared.network.SignalSource.{SignalSource}
use Rattle.ncl_network.specs.declared.network.Signal.{Signal}
use Rattle.ncl_network.specs.declared.network.Network.{Network}
use Rattle.ncl_network.specs.Network.{signal_value, node_values, answer_of, IsSource, ReachesOutput}
use Rattle.ncl_network.specs.Prune.{IsInOrder}
use Rattle.ncl_decomp.specs.Split.{IsNarrow}
use Rattle.ncl_plans.specs.declared.cone.Leaves.{Leaves}
use Rattle.ncl_plans.specs.declared.small.Small.{Small}
use Rattle.ncl_plans.specs.Smalls.{bits_of}
use Rattle.ncl_plans.specs.Pools.{IsPool}

-- the signal of a source, and those of leaves
abbrev pub plain : SignalSource → Signal
plain from = record { from = from; inverted = false }

abbrev pub leaf_signals : Leaves → List Signal
leaf_signals leaves =
    plain leaves.first ∷ plain leaves.second ∷ plain leaves.third ∷ plain leaves.fourth ∷ []

-- the signals of the first nodes of a network, over nodes with some bits, have the bits that these nodes have
abbrev pub HaveBits : List Bool → List Bool → List Bool → List Signal → Type 0
HaveBits word nodes old images =
    (k : ℕ) (signal : Signal) → slice_get images k ≡ Some signal → signal_value word nodes signal ≡ slice_index_or old k false

-- a signal has the bit of another, wherever the signals of nodes have the bits of these
pub record IsImageOf (inputs : ℕ) (images : List Signal) (signal found : Signal) : Type 0 where
  pub value : (word nodes old : List Bool) → HaveBits word nodes old images → signal_value word nodes found ≡ signal_value word old signal
  pub exists : (count : ℕ) → All (λ (image : Signal). IsSource inputs count image.from) images → IsSource inputs count found.from

-- signals have the bits of others
pub record AreImagesOf (inputs : ℕ) (images signals found : List Signal) : Type 0 where
  pub values : (word nodes old : List Bool) → HaveBits word nodes old images → map (signal_value word nodes) found ≡ map (signal_value word old) signals
  pub exist : (count : ℕ) → All (λ (image : Signal). IsSource inputs count image.from) images → All (λ (image : Signal). IsSource inputs count image.from) found

-- the bit of a node of a network at a word
abbrev pub bit_at : Network → List Bool → ℕ → Bool
bit_at network word k = slice_index_or (node_values word [] network.nodes) k false

-- the first nodes of a network are these signals of small nodes: there they have the same bits
pub record AreRemade (network : Network) (smalls : List Small) (images : List Signal) : Type 0 where
  pub fine : IsPool network.inputs smalls
  pub exist : All (λ (image : Signal). IsSource network.inputs (length smalls) image.from) images
  pub values : (word : List Bool) → HaveBits word (bits_of word smalls) (node_values word [] network.nodes) images

-- a network of narrow nodes in order gives the answers of another
pub record IsRebuiltOf (network made : Network) : Type 0 where
  pub narrow : All IsNarrow made.nodes
  pub ordered : IsInOrder made
  pub inputs : made.inputs ≡ network.inputs
  pub outputs : length made.outputs ≡ length network.outputs
  pub same : (word : List Bool) → answer_of made word ≡ answer_of network word

-- so does one whose nodes all reach an output
pub record IsRemadeOf (network made : Network) : Type 0 where
  pub narrow : All IsNarrow made.nodes
  pub ordered : IsInOrder made
  pub reach : (k : ℕ) → k < length made.nodes → ReachesOutput made k
  pub inputs : made.inputs ≡ network.inputs
  pub outputs : length made.outputs ≡ length network.outputs
  pub same : (word : List Bool) → answer_of made word ≡ answer_of network word

-- an improved network: it has the inputs and the number of outputs of another, and its answers
pub record IsSameAs (network made : Network) : Type 0 where
  pub inputs : made.inputs ≡ network.inputs
  pub outputs : length made.outputs ≡ length network.outputs
  pub same : (word : List Bool) → answer_of made word ≡ answer_of network word
