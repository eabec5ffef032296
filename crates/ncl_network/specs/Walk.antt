-- How the covers of a model fold one after another.
use Rattle.std.specs.Prelude.{◌≡◌, ℕ, ◌<◌, ◌≤◌, List, [], ◌∷◌, ◌++◌, Bool, false, Option, Some, IsSome, IfSome, length, map, sum_by, All, Contains, slice_get}
use Rattle.std.specs.List.{slice_index_or}
use Rattle.ncl_blif.specs.Meaning.{Fits}
use Rattle.ncl_blif.specs.declared.model.Cover.{Cover}
use Rattle.ncl_blif.specs.declared.model.Model.{Model}
use Rattle.ncl_network.specs.declared.network.SignalSource.TheVariants.{Input, Node as FromNode}
use Rattle.ncl_network.specs.declared.network.Signal.{Signal}
use Rattle.ncl_network.specs.declared.network.Node.{Node}
use Rattle.ncl_network.specs.declared.fold.Folded.{Folded}
use Rattle.ncl_network.specs.declared.fold.Folded.TheVariants.{Signal as IntoSignal, Node as IntoNode}
use Rattle.ncl_blif.specs.Model.{weight_of_rows}
use Rattle.ncl_network.specs.Network.{signal_value, node_values, IsSource, ReadBefore, IsNode}

-- the signal of an input
abbrev pub input_signal : ℕ → Signal
input_signal i = record { from = Input i; inverted = false }

-- the signal of a node
abbrev pub node_signal : ℕ → Signal
node_signal k = record { from = FromNode k; inverted = false }

-- the nodes with what a cover folds into, and the signal that this is
abbrev pub nodes_with : List Node → Folded → List Node
nodes_with nodes (IntoSignal signal) = nodes
nodes_with nodes (IntoNode node) = nodes ++ node ∷ []

abbrev pub signal_with : List Node → Folded → Signal
signal_with nodes (IntoSignal signal) = signal
signal_with nodes (IntoNode node) = node_signal (length nodes)

-- the weight of the rows of the cover at a place
abbrev pub weight_at : List Cover → ℕ → ℕ
weight_at covers place = slice_index_or (map (λ cover. weight_of_rows cover.rows) covers) place 0

-- how far the covers of a model are folded: what signals are known to be, the nodes so far, and the places
-- of the covers that are done
pub record IsWalked (model : Model) (known : ℕ → Option Signal) (nodes : List Node) (done : List ℕ) : Type 0 where
  -- the inputs and what the covers drive are known
  pub inputs : (i : ℕ) → i < length model.inputs → IsSome (known i)
  pub covers : (place : ℕ) (cover : Cover) → Contains done place → slice_get model.covers place ≡ Some cover → IsSome (known cover.out)
  -- what is known has a source, and the bit of the signal
  pub sources : (name : ℕ) → IfSome (known name) (λ signal. IsSource (length model.inputs) (length nodes) signal.from)
  pub values : (word : List Bool) (bits : ℕ → Bool) → Fits model word bits → (name : ℕ) → IfSome (known name) (λ signal. signal_value word (node_values word [] nodes) signal ≡ bits name)
  -- the nodes are in order, no more than covers, and weigh no more
  pub each : All IsNode nodes
  pub reads_before : ReadBefore (length model.inputs) 0 nodes
  pub few : length nodes ≤ length done
  pub weight : sum_by (λ node. weight_of_rows node.rows) nodes ≤ sum_by (weight_at model.covers) done
