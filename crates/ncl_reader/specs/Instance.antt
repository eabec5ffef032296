-- What an instance keeps.
use Rattle.std.specs.Prelude.{◌≡◌, ℕ, List, map, Bool, true, false, ◌⊎◌, Contains, Option, Some, None}
use Rattle.ncl_gates.specs.declared.cell_kind.CellKind.{CellKind}
use Rattle.ncl_gates.specs.Cell.{pins_of}
use Rattle.ncl_gates.specs.Name.{cell_name_of}
use Rattle.ncl_netlist.specs.declared.parts.PartCell.{PartCell}
use Rattle.ncl_reader.specs.declared.instance.Instance.{Instance}
use Rattle.ncl_reader.specs.declared.instance.Join.{Join}
use Rattle.ncl_reader.specs.Grammar.{Conn}
use Rattle.ncl_reader.specs.Says.{IsCellOf, net_name}
use Rattle.ncl_reader.specs.Vectors.{bit_name}

-- a pin, and the name of the net that it is on
pub record Joint : Type 0 where
  pub pin : List ℕ
  pub net : List ℕ

-- a net, or the bit of a vector with a number
abbrev pub picked_name : List ℕ → Option ℕ → List ℕ
picked_name name None = name
picked_name name (Some k) = bit_name name k

-- what is kept of a connection, and what a connection says
abbrev pub joint_of : Join → Joint
joint_of join = record { pin = join.pin.now; net = picked_name join.net.now join.index }

abbrev pub joint_in : Conn → Joint
joint_in conn = record { pin = conn.pin; net = net_name conn.net }

-- these connections are kept
abbrev pub AreJoins : List Conn → List Join → Type 0
AreJoins conns joins = map joint_of joins ≡ map joint_in conns

-- the pins that are joined
abbrev pub pins_in : List Conn → List (List ℕ)
pins_in conns = map (λ (c : Conn). c.pin) conns

-- the cell has the pin and it isn't joined, or the cell hasn't or it is
abbrev pub MayJoin : Bool → CellKind → List Conn → List ℕ → Type 0
MayJoin true kind conns x = Contains (pins_of kind) x × ¬ Contains (pins_in conns) x
MayJoin false kind conns x = ¬ Contains (pins_of kind) x ⊎ Contains (pins_in conns) x

-- all pins are joined and this is the cell, or a pin isn't joined
abbrev pub Closes : Instance → List Conn → Option PartCell → Type 0
Closes instance conns (Some cell) =
    ((pin : List ℕ) → Contains (pins_of instance.kind) pin → Contains (pins_in conns) pin)
    × IsCellOf (record { cell = cell_name_of instance.kind; name = instance.name.now; conns = conns }) cell
Closes instance conns None = (pin : List ℕ) × Contains (pins_of instance.kind) pin × ¬ Contains (pins_in conns) pin
