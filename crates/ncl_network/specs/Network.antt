-- Networks of nodes: what they compute, and what networks that models fold into are like.
use Rattle.std.specs.Prelude.{◌≡◌, ℕ, ◌+◌, ◌<◌, ◌≤◌, List, [], ◌∷◌, ◌++◌, Bool, true, false, not, if◌then◌else◌, length, map, sum_by, All, Contains, slice_get, Some}
use Rattle.std.specs.List.{slice_index_or, list_all}
use Rattle.ncl_blif.specs.Meaning.{cover_value}
use Rattle.ncl_blif.specs.Model.{most_size, weight_of_rows}
use Rattle.ncl_blif.specs.declared.model.Lit.{Lit}
use Rattle.ncl_blif.specs.declared.model.Lit.TheVariants.{Zero, One, Dash}
use Rattle.ncl_blif.specs.declared.model.Model.{Model}
use Rattle.ncl_network.specs.declared.network.SignalSource.{SignalSource}
use Rattle.ncl_network.specs.declared.network.SignalSource.TheVariants.{Input, Node as FromNode, Const}
use Rattle.ncl_network.specs.declared.network.Signal.{Signal}
use Rattle.ncl_network.specs.declared.network.Node.{Node}
use Rattle.ncl_network.specs.declared.network.Network.{Network}

-- the bit of a source where the inputs have the bits of a word and the nodes these bits
abbrev pub source_value : List Bool → List Bool → SignalSource → Bool
source_value word nodes (Input i) = slice_index_or word i false
source_value word nodes (FromNode k) = slice_index_or nodes k false
source_value word nodes (Const bit) = bit

-- the bit of a signal: its source's, or the inverse of that
abbrev pub signal_value : List Bool → List Bool → Signal → Bool
signal_value word nodes signal =
    if signal.inverted then not (source_value word nodes signal.from) else source_value word nodes signal.from

-- the bit of a node
abbrev pub node_value : List Bool → List Bool → Node → Bool
node_value word nodes node = cover_value node.on node.rows (map (signal_value word nodes) node.ins)

-- the bits of nodes that follow nodes with these bits: each reads those before it
abbrev pub node_values : List Bool → List Bool → List Node → List Bool
node_values word bits [] = bits
node_values word bits (node ∷ rest) = node_values word (bits ++ node_value word bits node ∷ []) rest

-- the output word of a network at an input word
abbrev pub answer_of : Network → List Bool → List Bool
answer_of network word = map (signal_value word (node_values word [] network.nodes)) network.outputs

-- the weight of a network, and that of a model: that of their rows
abbrev pub weight_of_network : Network → ℕ
weight_of_network network = sum_by (λ node. weight_of_rows node.rows) network.nodes

abbrev pub weight_of_model : Model → ℕ
weight_of_model model = sum_by (λ cover. weight_of_rows cover.rows) model.covers

-- whether a source is a constant
abbrev pub is_constant : SignalSource → Bool
is_constant (Input i) = false
is_constant (FromNode k) = false
is_constant (Const bit) = true

-- whether a literal lets either bit through
abbrev pub is_dash : Lit → Bool
is_dash Zero = false
is_dash One = false
is_dash Dash = true

-- there is such a source where there are so many inputs and nodes
abbrev pub IsSource : ℕ → ℕ → SignalSource → Type 0
IsSource inputs nodes (Input i) = i < inputs
IsSource inputs nodes (FromNode k) = k < nodes
IsSource inputs nodes (Const bit) = Unit {0}

-- nodes, the first of which has this number, read only inputs that there are and nodes before them
abbrev pub ReadBefore : ℕ → ℕ → List Node → Type 0
ReadBefore inputs place [] = Unit {0}
ReadBefore inputs place (node ∷ rest) =
    All (λ signal. IsSource inputs place signal.from) node.ins × ReadBefore inputs (place + 1) rest

-- a node is an output of the network, or is read by a node that reaches one
pub data ReachesOutput (network : Network) : ℕ → Type 0 where
  output : (k : ℕ) (signal : Signal) → Contains network.outputs signal → signal.from ≡ FromNode k → ReachesOutput network k
  reader : (k by : ℕ) (node : Node) (signal : Signal) → slice_get network.nodes by ≡ Some node → Contains node.ins signal → signal.from ≡ FromNode k → ReachesOutput network by → ReachesOutput network k

-- a node that covers fold into: it has two inputs or more, none of them constant, and rows that fit these,
-- none of dashes alone
pub record IsNode (node : Node) : Type 0 where
  -- its inputs
  pub two_inputs : 2 ≤ length node.ins
  pub no_constant : All (λ signal. is_constant signal.from ≡ false) node.ins
  -- its rows
  pub some_row : 0 < length node.rows
  pub row_widths : All (λ row. length row ≡ length node.ins) node.rows
  pub no_idle_row : All (λ row. list_all is_dash row ≡ false) node.rows

-- a network that models fold into
pub record IsNetwork (network : Network) : Type 0 where
  -- its nodes are such nodes, and each reads only inputs that there are and nodes before it
  pub nodes : All IsNode network.nodes
  pub reads_before : ReadBefore network.inputs 0 network.nodes
  -- there is what its outputs are of, and each node reaches one of them
  pub outputs_exist : All (λ signal. IsSource network.inputs (length network.nodes) signal.from) network.outputs
  pub reach : (k : ℕ) → k < length network.nodes → ReachesOutput network k
  -- it weighs no more than a file may
  pub small : weight_of_network network ≤ most_size
