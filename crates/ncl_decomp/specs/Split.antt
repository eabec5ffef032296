-- Networks whose nodes have two to four inputs.
use Rattle.std.specs.Prelude.{◌≡◌, ℕ, ◌*◌, ◌<◌, ◌≤◌, ◌==◌, ◌⊎◌, List, false, if◌then◌else◌, length, sum_by, All, Contains}
use Rattle.ncl_blif.specs.Model.{most_size}
use Rattle.ncl_network.specs.declared.network.Node.{Node}
use Rattle.ncl_network.specs.declared.network.Network.{Network}
use Rattle.ncl_network.specs.Network.{is_constant, IsSource, ReadBefore, ReachesOutput}

-- what a node of so many inputs costs: two cells for two inputs, 12 for three, 22 for four
abbrev pub cost_of_inputs : ℕ → ℕ
cost_of_inputs n = if n == 2 then 2 else (if n == 3 then 12 else (if n == 4 then 22 else 0))

-- the cost of nodes, and of a network
abbrev pub cost_of_nodes : List Node → ℕ
cost_of_nodes nodes = sum_by (λ node. cost_of_inputs (length node.ins)) nodes

abbrev pub cost_of_network : Network → ℕ
cost_of_network network = cost_of_nodes network.nodes

-- the most that any network costs that is split: five times the most that a network weighs
abbrev pub most_cost : ℕ
most_cost = 5 * most_size

-- a node of two to four inputs, none of them constant, that has a row, and rows that fit its inputs
pub record IsNarrow (node : Node) : Type 0 where
  pub two_inputs : 2 ≤ length node.ins
  pub four_inputs : length node.ins ≤ 4
  pub no_constant : All (λ signal. is_constant signal.from ≡ false) node.ins
  pub some_row : 0 < length node.rows
  pub row_widths : All (λ row. length row ≡ length node.ins) node.rows

-- a network of such nodes
pub record IsSplit (network : Network) : Type 0 where
  -- each node reads only inputs that there are and nodes before it
  pub nodes : All IsNarrow network.nodes
  pub reads_before : ReadBefore network.inputs 0 network.nodes
  -- there is what its outputs are of, and each node reaches one of them
  pub outputs_exist : All (λ signal. IsSource network.inputs (length network.nodes) signal.from) network.outputs
  pub reach : (k : ℕ) → k < length network.nodes → ReachesOutput network k
  -- it costs no more than five times what a file may weigh
  pub cheap : cost_of_network network ≤ most_cost

-- a node has as many inputs as another, and its rows
pub record HasRowsOf (node from : Node) : Type 0 where
  pub inputs : length node.ins ≡ length from.ins
  pub on : node.on ≡ from.on
  pub rows : node.rows ≡ from.rows

-- a node has two inputs, or stood among others
abbrev pub IsOfTwoOr : List Node → Node → Type 0
IsOfTwoOr nodes node =
    (length node.ins ≡ 2) ⊎ ((from : Node) × Contains nodes from × HasRowsOf node from)
