-- The cells of a bank before they are named, and the nets of its acknowledge and tree cells.
use Rattle.std.specs.Prelude.{◌≡◌, ℕ, ◌+◌, ◌-◌, ◌*◌, ◌<◌, ◌≤◌, List, [], ◌∷◌, ◌++◌, length, map, slice_index_or}
use Rattle.std.specs.List.{range_with_len}
use Rattle.ncl_gates.specs.declared.cell_kind.CellKind.{CellKind}
use Rattle.ncl_gates.specs.declared.cell_kind.CellKind.TheVariants.{Gate, Register, Ack}
use Rattle.ncl_netlist.specs.declared.ids.NetId.{NetId}
use Rattle.ncl_netlist.specs.declared.parts.NamePair.{NamePair}
use Rattle.ncl_netlist.specs.declared.parts.PartCell.{PartCell}
use Rattle.ncl_shape.specs.declared.stage.StageCell.{StageCell}
use Rattle.ncl_tree.specs.declared.tree.Family.TheVariants.{All as Conjunctions}
use Rattle.ncl_tree.specs.Gates.{GatesData, AreNumbered}
use Rattle.ncl_tree.specs.GateTree.{GateTree}
use Rattle.ncl_tree.specs.PartNames.{cell_name_of, net_name_of}

-- a cell that has no name yet
pub record Unnamed : Type 0 where
  pub kind : CellKind
  pub pins : List (List ℕ)

-- the cell at a place, of which its name is made
abbrev pub cell_at : List ℕ → ℕ → Unnamed → PartCell
cell_at prefix place cell = record { kind = cell.kind; name = cell_name_of prefix place; pins = cell.pins }

-- cells that are named by their places, of which the first is given
abbrev pub named_from : List ℕ → ℕ → List Unnamed → List PartCell
named_from prefix place [] = []
named_from prefix place (cell ∷ cells) = cell_at prefix place cell ∷ named_from prefix (place + 1) cells

-- cells stand after those that there were, and are named by their places
abbrev pub AddsCells : List ℕ → List Unnamed → List PartCell → List PartCell → Type 0
AddsCells prefix cells before after = after ≡ before ++ named_from prefix (length before) cells

-- a register cell with these pins
abbrev pub register_with : List (List ℕ) → Unnamed
register_with pins = record { kind = Register; pins = pins }

-- the acknowledge cell of a bit, that drives a net
abbrev pub ack_of : NamePair × List ℕ → Unnamed
ack_of (pair, net) = record { kind = Ack; pins = pair.zero ∷ pair.one ∷ net ∷ [] }

-- the name of a net of the tree
abbrev pub name_at : List (List ℕ) → NetId → List ℕ
name_at nets net = slice_index_or nets net.0 []

-- a net of a gate is one of these
abbrev pub IsNetOf : List (List ℕ) → NetId → Type 0
IsNetOf nets net = net.0 < length nets

-- the nets at the pins of a gate, its output last
abbrev pub nets_of_gate : StageCell → List NetId
nets_of_gate gate = gate.ins.items ++ gate.out ∷ []

-- the cell of a gate of the tree
abbrev pub tree_cell_of : List (List ℕ) → StageCell → Unnamed
tree_cell_of nets gate = record { kind = Gate gate.kind; pins = map (name_at nets) (nets_of_gate gate) }

-- the nets of so many acknowledge and tree cells, of which the first is the cell with this number: the last is the root
abbrev pub names_of_nets : List ℕ → List ℕ → ℕ → ℕ → List (List ℕ)
names_of_nets prefix root first count = map (net_name_of prefix) (range_with_len first (count - 1)) ++ root ∷ []

-- the nets with the numbers below a number
abbrev pub nets_below : ℕ → List NetId
nets_below count = map (λ number. record { 0 = number }) (range_with_len 0 count)

-- gates that are a tree of conjunctions over so many nets, with which the numbers begin
pub record IsCompletion (bits : ℕ) (gates : GatesData) : Type 0 where
  pub numbered : AreNumbered gates
  pub first : gates.first ≡ bits
  pub root : NetId
  pub tree : GateTree Conjunctions (nets_below bits) gates.cells root
  pub few : 3 * length gates.cells ≤ bits + 1
