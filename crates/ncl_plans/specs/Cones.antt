-- What the nodes of a network are in terms of others.
use Rattle.std.specs.Prelude.{◌≡◌, ℕ, List, [], ◌∷◌, Bool, not, cond, map, All, slice_get, Some}
use Rattle.ncl_blif.specs.Meaning.{cover_value}
use Rattle.ncl_network.specs.declared.network.SignalSource.{SignalSource}
use Rattle.ncl_network.specs.declared.network.SignalSource.TheVariants.{Node as FromNode}
use Rattle.ncl_network.specs.declared.network.Signal.{Signal}
use Rattle.ncl_network.specs.declared.network.Node.{Node}
use Rattle.ncl_plans.specs.declared.cone.Known.{Known}
use Rattle.ncl_plans.specs.declared.cone.Leaves.{Leaves}
use Rattle.ncl_plans.specs.declared.plan.Plan.{Plan}
use Rattle.ncl_plans.specs.Plans.{plan_value}

-- the bit of a signal where sources have these bits
abbrev pub signal_in : (SignalSource → Bool) → Signal → Bool
signal_in value signal = cond signal.inverted (not (value signal.from)) (value signal.from)

-- the bits of sources in which each node has the value of its cover
abbrev pub Respects : List Node → (SignalSource → Bool) → Type 0
Respects nodes value =
    (k : ℕ) (node : Node) → slice_get nodes k ≡ Some node → value (FromNode k) ≡ cover_value node.on node.rows (map (signal_in value) node.ins)

-- sources have the bits that are known of them
abbrev pub IsKnown : (SignalSource → Bool) → List Known → Type 0
IsKnown value known = All (λ fact. value fact.from ≡ fact.bit) known

-- that a source has this bit
abbrev pub fact : SignalSource → Bool → Known
fact from bit = record { from = from; bit = bit }

-- the bits of four leaves
abbrev pub leaf_bits : (SignalSource → Bool) → Leaves → List Bool
leaf_bits value leaves = value leaves.first ∷ value leaves.second ∷ value leaves.third ∷ value leaves.fourth ∷ []

-- a plan over leaves gives the bit of a node, whatever bits respect the nodes
abbrev pub Computes : List Node → ℕ → Leaves → Plan → Type 0
Computes nodes k leaves plan =
    (value : SignalSource → Bool) → Respects nodes value → value (FromNode k) ≡ plan_value plan (leaf_bits value leaves)

-- it does where the leaves have the bits of a word
abbrev pub ComputesAt : List Node → ℕ → Leaves → Plan → List Bool → Type 0
ComputesAt nodes k leaves plan word =
    (value : SignalSource → Bool) → Respects nodes value → leaf_bits value leaves ≡ word → value (FromNode k) ≡ plan_value plan word
