-- Nodes of two inputs, and trees of them.
use Rattle.std.specs.Prelude.{◌≡◌, ℕ, ◌+◌, List, [], ◌∷◌, ◌++◌, length, true, false}
use Rattle.ncl_blif.specs.declared.model.Lit.TheVariants.{Zero, One, Dash}
use Rattle.ncl_network.specs.declared.network.SignalSource.TheVariants.{Node as FromNode}
use Rattle.ncl_network.specs.declared.network.Signal.{Signal}
use Rattle.ncl_network.specs.declared.network.Node.{Node}
use Rattle.ncl_decomp.specs.declared.pair.Joint.{Joint}
use Rattle.ncl_decomp.specs.declared.pair.Joint.TheVariants.{And, Or, Join}

-- the node over two signals: their conjunction, their disjunction, or the first of them
abbrev pub pair_node : Joint → Signal → Signal → Node
pair_node And s t = record { ins = s ∷ t ∷ []; on = true; rows = (One ∷ One ∷ []) ∷ [] }
pair_node Or s t = record { ins = s ∷ t ∷ []; on = false; rows = (Zero ∷ Zero ∷ []) ∷ [] }
pair_node Join s t = record { ins = s ∷ t ∷ []; on = true; rows = (One ∷ Dash ∷ []) ∷ [] }

-- the signal of a node
abbrev pub node_signal : ℕ → Signal
node_signal k = record { from = FromNode k; inverted = false }

-- a tree of such nodes over signals, where so many nodes stand before: each node takes the first two signals of
-- the queue, and its own joins the end
pub data NodeTree (joint : Joint) : ℕ → List Signal → List Node → Signal → Type 0 where
  one : (k : ℕ) (signal : Signal) → NodeTree joint k (signal ∷ []) [] signal
  more : (k : ℕ) (s t : Signal) (rest : List Signal) (nodes : List Node) (root : Signal) → NodeTree joint (k + 1) (rest ++ node_signal k ∷ []) nodes root → NodeTree joint k (s ∷ t ∷ rest) (pair_node joint s t ∷ nodes) root

-- a tree over signals stands after the nodes that there were, and has this root
abbrev pub AddsTree : Joint → List Signal → List Node → List Node → Signal → Type 0
AddsTree joint leaves before after root =
    (made : List Node) × (after ≡ before ++ made) × NodeTree joint (length before) leaves made root
