-- Networks with nothing left to complete before they are laid out.
use Rattle.std.specs.Prelude.{◌≡◌, ℕ, ◌<◌, List, [], ◌∷◌, Bool, true, false, not, ◌||◌, ◌==◌, if◌then◌else◌, length, map, filter, All, Contains, slice_get, Some}
use Rattle.std.specs.List.{list_any, range_with_len}
use Rattle.ncl_blif.specs.declared.model.Lit.TheVariants.{Dash}
use Rattle.ncl_network.specs.declared.network.SignalSource.{SignalSource}
use Rattle.ncl_network.specs.declared.network.SignalSource.TheVariants.{Input, Node as FromNode, Const}
use Rattle.ncl_network.specs.declared.network.Signal.{Signal}
use Rattle.ncl_network.specs.declared.network.Node.{Node}
use Rattle.ncl_network.specs.declared.network.Network.{Network}
use Rattle.ncl_network.specs.Network.{IsSource, ReadBefore, is_constant, signal_value, answer_of}
use Rattle.ncl_decomp.specs.Split.{IsNarrow}

-- a source reaches an output: it is one, or a node that reaches one reads it
pub data SourceReaches (network : Network) : SignalSource → Type 0 where
  output : (source : SignalSource) (signal : Signal) → Contains network.outputs signal → signal.from ≡ source → SourceReaches network source
  reader : (source : SignalSource) (by : ℕ) (node : Node) (signal : Signal) → slice_get network.nodes by ≡ Some node → Contains node.ins signal → signal.from ≡ source → SourceReaches network (FromNode by) → SourceReaches network source

-- a network of narrow nodes none of whose outputs is constant
pub record IsVarying (network : Network) : Type 0 where
  -- each node reads only inputs that there are and nodes before it
  pub nodes : All IsNarrow network.nodes
  pub reads_before : ReadBefore network.inputs 0 network.nodes
  -- there is what its outputs are of, and each node reaches one of them
  pub outputs_exist : All (λ signal. IsSource network.inputs (length network.nodes) signal.from) network.outputs
  pub no_constant_output : All (λ signal. is_constant signal.from ≡ false) network.outputs
  pub nodes_reach : (k : ℕ) → k < length network.nodes → SourceReaches network (FromNode k)

-- a network with nothing left to complete: each input reaches an output too
pub record IsComplete (network : Network) : Type 0 where
  pub varying : IsVarying network
  pub inputs_reach : (i : ℕ) → i < network.inputs → SourceReaches network (Input i)

-- a network gives the answers of an older one, which has as many inputs and outputs
pub record AnswersAs (old new : Network) : Type 0 where
  pub inputs : new.inputs ≡ old.inputs
  pub outputs : length new.outputs ≡ length old.outputs
  pub same : (word : List Bool) → answer_of new word ≡ answer_of old word

-- the signal of an input
abbrev pub input_signal : ℕ → Signal
input_signal i = record { from = Input i; inverted = false }

-- a node that is always 1, and waits for the first input
abbrev pub true_node : Node
true_node = record { ins = input_signal 0 ∷ input_signal 0 ∷ []; on = true; rows = (Dash ∷ Dash ∷ []) ∷ [] }

-- a signal, where a node with this number is always 1: a constant is of that node, inverted where it is 0
abbrev pub replaced : ℕ → Signal → Signal
replaced k signal =
    if is_constant signal.from then (record { from = FromNode k; inverted = not (signal_value [] [] signal) }) else signal

-- whether a source is this input, and whether one of some signals is of it
abbrev pub is_input : ℕ → SignalSource → Bool
is_input i (Input j) = j == i
is_input i (FromNode k) = false
is_input i (Const bit) = false

abbrev pub is_among : List Signal → ℕ → Bool
is_among signals i = list_any (λ signal. is_input i signal.from) signals

-- whether a node or an output reads an input
abbrev pub is_input_read : Network → ℕ → Bool
is_input_read network i = is_among network.outputs i || list_any (λ node. is_among node.ins i) network.nodes

-- the inputs that none of them reads, in order
abbrev pub unread_signals : Network → List Signal
unread_signals network = map input_signal (filter (λ i. not (is_input_read network i)) (range_with_len 0 network.inputs))

-- what is an input is one of so many
abbrev pub IsInputBelow : ℕ → SignalSource → Type 0
IsInputBelow inputs (Input i) = i < inputs
IsInputBelow inputs (FromNode k) = Unit {0}
IsInputBelow inputs (Const bit) = Unit {0}
