-- Networks whose nodes wait for some of what they read, word by word.
use Rattle.std.specs.Prelude.{◌≡◌, ◌⊎◌, ℕ, ◌<◌, List, [], Bool, true, length, map, Contains, slice_get, Some}
use Rattle.std.specs.List.{slice_index_or}
use Rattle.ncl_gates.specs.Bits.{is_set}
use Rattle.ncl_network.specs.declared.network.SignalSource.{SignalSource}
use Rattle.ncl_network.specs.declared.network.SignalSource.TheVariants.{Input, Node as FromNode}
use Rattle.ncl_network.specs.declared.network.Signal.{Signal}
use Rattle.ncl_network.specs.declared.network.Node.{Node}
use Rattle.ncl_network.specs.declared.network.Network.{Network}
use Rattle.ncl_network.specs.Network.{source_value, node_values}
use Rattle.ncl_plans.specs.Cones.{signal_in}
use Rattle.ncl_template.specs.declared.waits.Waits.{Waits}
use Rattle.ncl_template.specs.Waits.{waits_at, all_inputs}

-- whether the node with a number waits, at a word of what it reads, for what stands at a place: where it isn't told, it does
abbrev pub waits_of : List Waits → ℕ → List Bool → ℕ → Bool
waits_of waits k = waits_at (slice_index_or waits k all_inputs)

-- the bits of sources at a word of the inputs
abbrev pub value_at : Network → List Bool → SignalSource → Bool
value_at network word = source_value word (node_values word [] network.nodes)

-- the bits of a number are those of some sources, the first the least significant
pub record HasBits (value : SignalSource → Bool) (sources : List SignalSource) (number : ℕ) : Type 0 where
  pub each : (k : ℕ) → k < length sources → is_set number k ≡ value (slice_index_or sources k (Input 0))

-- one of some signals is of a source, and waited for
pub record WaitsFor (waits : ℕ → Bool) (ins : List Signal) (source : SignalSource) : Type 0 where
  pub place : ℕ
  pub signal : Signal
  pub reads : slice_get ins place ≡ Some signal
  pub is : signal.from ≡ source
  pub passes : waits place ≡ true

-- where sources have these bits, a node waits for a signal of a source
pub record IsAwaited (network : Network) (waits : ℕ → List Bool → ℕ → Bool) (value : SignalSource → Bool) (source : SignalSource) : Type 0 where
  pub by : ℕ
  pub node : Node
  pub stands : slice_get network.nodes by ≡ Some node
  pub awaits : WaitsFor (waits by (map (signal_in value) node.ins)) node.ins source

-- an output is of a source
pub record IsGiven (network : Network) (source : SignalSource) : Type 0 where
  pub signal : Signal
  pub given : Contains network.outputs signal
  pub is : signal.from ≡ source

-- a source is an output, or at each word of the inputs some node waits for it, not always the same
abbrev pub IsHeld : Network → (ℕ → List Bool → ℕ → Bool) → SignalSource → Type 0
IsHeld network waits source = IsGiven network source ⊎ ((word : List Bool) → IsAwaited network waits (value_at network word) source)

-- each input and each node is held
pub record IsCovered (network : Network) (waits : ℕ → List Bool → ℕ → Bool) : Type 0 where
  pub inputs : (i : ℕ) → i < network.inputs → IsHeld network waits (Input i)
  pub nodes : (k : ℕ) → k < length network.nodes → IsHeld network waits (FromNode k)

-- an output waits for a source where sources have these bits: it is of it, or of a node that waits for it, and so on
pub data Reaches (network : Network) (waits : ℕ → List Bool → ℕ → Bool) (value : SignalSource → Bool) : SignalSource → Type 0 where
  output : (from : SignalSource) → IsGiven network from → Reaches network waits value from
  waiter : (from : SignalSource) (await : IsAwaited network waits value from) → Reaches network waits value (FromNode await.by) → Reaches network waits value from
