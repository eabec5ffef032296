-- Small nodes: those that an improved network is made of.
use Rattle.std.specs.Prelude.{List, [], ◌∷◌, Bool, true, not, ◌&&◌, ◌||◌, cond, map}
use Rattle.ncl_blif.specs.declared.model.Lit.{Lit}
use Rattle.ncl_blif.specs.declared.model.Lit.TheVariants.{Zero, One, Dash}
use Rattle.ncl_network.specs.declared.network.Signal.{Signal}
use Rattle.ncl_network.specs.declared.network.Node.{Node}
use Rattle.ncl_network.specs.Network.{signal_value, node_values}
use Rattle.ncl_plans.specs.declared.small.Op.{Op}
use Rattle.ncl_plans.specs.declared.small.Op.TheVariants.{And, Differ, Majority, Choose}
use Rattle.ncl_plans.specs.declared.small.Small.{Small}

-- the bit of an operation: whether both of two are 1, whether they differ, what most of three are, and by the
-- first whether the second (at 0) or the third (at 1)
abbrev pub op_value : Op → Bool → Bool → Bool → Bool
op_value And a b c = a && b
op_value Differ a b c = cond a (not b) b
op_value Majority a b c = cond a (b || c) (b && c)
op_value Choose a b c = cond a c b

-- the signals that an operation reads of three
abbrev pub ins_of : Op → Signal → Signal → Signal → List Signal
ins_of And s t u = s ∷ t ∷ []
ins_of Differ s t u = s ∷ t ∷ []
ins_of Majority s t u = s ∷ t ∷ u ∷ []
ins_of Choose s t u = s ∷ t ∷ u ∷ []

-- the rows of its ON-set
abbrev pub rows_of : Op → List (List Lit)
rows_of And = (One ∷ One ∷ []) ∷ []
rows_of Differ = (One ∷ Zero ∷ []) ∷ (Zero ∷ One ∷ []) ∷ []
rows_of Majority = (One ∷ One ∷ Dash ∷ []) ∷ (One ∷ Dash ∷ One ∷ []) ∷ (Dash ∷ One ∷ One ∷ []) ∷ []
rows_of Choose = (Zero ∷ One ∷ Dash ∷ []) ∷ (One ∷ Dash ∷ One ∷ []) ∷ []

-- a small node as a node of a network, and the signals that it reads
abbrev pub small_ins : Small → List Signal
small_ins small = ins_of small.op small.first small.second small.third

abbrev pub small_node : Small → Node
small_node small = record { ins = small_ins small; on = true; rows = rows_of small.op }

-- its bit, where the inputs have the bits of a word and the nodes these bits
abbrev pub small_value : List Bool → List Bool → Small → Bool
small_value word nodes small =
    op_value small.op (signal_value word nodes small.first) (signal_value word nodes small.second) (signal_value word nodes small.third)

-- the bits of small nodes at a word
abbrev pub bits_of : List Bool → List Small → List Bool
bits_of word smalls = node_values word [] (map small_node smalls)
