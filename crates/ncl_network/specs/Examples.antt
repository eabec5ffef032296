-- A network for worked examples.
use Rattle.std.specs.Prelude.{[], ◌∷◌, true, false}
use Rattle.ncl_blif.specs.declared.model.Lit.TheVariants.{Zero, One, Dash}
use Rattle.ncl_network.specs.declared.network.SignalSource.TheVariants.{Input, Node as FromNode}
use Rattle.ncl_network.specs.declared.network.Signal.{Signal}
use Rattle.ncl_network.specs.declared.network.Node.{Node}
use Rattle.ncl_network.specs.declared.network.Network.{Network}

abbrev pub first_input : Signal
first_input = record { from = Input 0; inverted = false }

abbrev pub second_input : Signal
second_input = record { from = Input 1; inverted = false }

abbrev pub carry : Signal
carry = record { from = FromNode 0; inverted = false }

abbrev pub sum : Signal
sum = record { from = FromNode 1; inverted = false }

-- a node that is 1 where both inputs are
abbrev pub carry_node : Node
carry_node = record { ins = first_input ∷ second_input ∷ []; on = true; rows = (One ∷ One ∷ []) ∷ [] }

-- a node that is 0 where no input is 1, and where both are
abbrev pub sum_node : Node
sum_node = record {
  ins = first_input ∷ second_input ∷ carry ∷ [];
  on = false;
  rows = (Zero ∷ Zero ∷ Dash ∷ []) ∷ (Dash ∷ Dash ∷ One ∷ []) ∷ [];
}

-- a half adder
abbrev pub half_adder : Network
half_adder = record { inputs = 2; outputs = carry ∷ sum ∷ []; nodes = carry_node ∷ sum_node ∷ [] }
