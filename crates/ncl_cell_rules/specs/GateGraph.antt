-- The drivers of the nets, and the gate cells as a graph.
use Rattle.std.specs.Prelude.{◌≡◌, ℕ, ◌<◌, List, [], map, length, Option, None, Some}
use Rattle.std.specs.List.{filter_map, slice_index_or}
use Rattle.ncl_gates.specs.declared.cell_kind.CellKind.{CellKind}
use Rattle.ncl_gates.specs.declared.cell_kind.CellKind.TheVariants.{Gate, Register, RegisterData, Ack}
use Rattle.ncl_netlist.specs.declared.ids.NetId.{NetId}
use Rattle.ncl_netlist.specs.declared.cell.Cell.{Cell}
use Rattle.ncl_netlist.specs.Netlist.{NetlistData, IsNetlist}
use Rattle.ncl_cell_rules.specs.Origin.{IsCell, CellAt, IsRegister, IsDataRegister, OnPin, B}

-- the cell at this place drives the net
abbrev pub Drives : NetlistData → ℕ → ℕ → Type 0
Drives n place net = (c : Cell) × CellAt n place c × (c.out.0 ≡ net)

-- the register cell at this place, of the bank of this request, drives the net
pub record IsRegisterBehind (n : NetlistData) (net place request : ℕ) : Type 0 where
  pub cell : Cell
  pub at : CellAt n place cell
  pub out : cell.out.0 ≡ net
  pub register : IsRegister cell
  pub on_b : OnPin cell B request

-- a register cell that is reset to 1 drives the net
pub record IsDataBehind (n : NetlistData) (net : ℕ) : Type 0 where
  pub cell : Cell
  pub is_cell : IsCell n cell
  pub out : cell.out.0 ≡ net
  pub resets_high : IsDataRegister cell

-- what a table of drivers says of a net
abbrev pub driver_at : List (Option ℕ) → ℕ → Option ℕ
driver_at drivers net = slice_index_or drivers net None

-- the table has for each net the place of the cell that drives it, if that is one of the first cells, and else None
pub record AreDriversBelow (n : NetlistData) (limit : ℕ) (drivers : List (Option ℕ)) : Type 0 where
  pub sized : length drivers ≡ length n.nets
  pub drives : (net place : ℕ) → driver_at drivers net ≡ Some place → Drives n place net
  pub below : (net place : ℕ) → driver_at drivers net ≡ Some place → place < limit
  pub driven : (net place : ℕ) → Drives n place net → place < limit → driver_at drivers net ≡ Some place

-- the table of a netlist has for each net the place of the cell that drives it, and None where no cell does
pub record AreDrivers (n : NetlistData) (drivers : List (Option ℕ)) : Type 0 where
  pub netlist : IsNetlist n
  pub sized : length drivers ≡ length n.nets
  pub drives : (net place : ℕ) → driver_at drivers net ≡ Some place → Drives n place net
  pub driven : (net place : ℕ) → Drives n place net → driver_at drivers net ≡ Some place

-- the cells that drive the pins of a gate cell, in pin order
abbrev pub arcs_of : List (Option ℕ) → CellKind → List NetId → List ℕ
arcs_of drivers (Gate kind) ins = filter_map (λ (net : NetId). driver_at drivers net.0) ins
arcs_of drivers Register ins = []
arcs_of drivers RegisterData ins = []
arcs_of drivers Ack ins = []

abbrev pub arcs : List (Option ℕ) → Cell → List ℕ
arcs drivers c = arcs_of drivers c.kind c.ins.items

-- the graph in which each gate cell leads to the cells that drive its pins
abbrev pub gate_graph : NetlistData → List (Option ℕ) → List (List ℕ)
gate_graph n drivers = map (arcs drivers) n.cells
