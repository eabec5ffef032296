-- Netlists: cells that are joined by named nets, as in a structural module of Verilog
-- (IEEE 1364-2005), in which each net is driven once.
use Rattle.std.specs.Prelude.{◌≡◌, ℕ, ◌+◌, ◌<◌, ◌≤◌, ◌^◌, List, [], ◌∷◌, ◌++◌, map, take, length, count_by, All, nat_eq, slice_index, slice_index_or, if◌then◌else◌}
use Rattle.std.specs.List.{flat_map}
use Rattle.ncl_netlist.specs.declared.port.Port.{Port}
use Rattle.ncl_netlist.specs.declared.cell.Cell.{Cell}
use Rattle.ncl_netlist.specs.declared.cell_rules.TheConstants.{MOST_CELLS}
use Rattle.ncl_gates.specs.Cell.{pins_of}
use Rattle.ncl_netlist.specs.declared.ids.NetId.{NetId}
use Rattle.ncl_netlist.specs.Names.{AllDiffer, once_each}

-- what a contract sees of a netlist; the number of a net or a cell is its place in its list
pub record NetlistData : Type 0 where
  pub name : List ℕ
  pub ports : List Port
  pub nets : List (List ℕ)
  pub cells : List Cell

-- the most cells of a netlist, as in the code
abbrev pub most_cells : ℕ
most_cells = MOST_CELLS

-- how many drivers a port is of its net: an input port is one, an output port is none
abbrev pub drives : Port → ℕ
drives port = if port.output then 0 else 1

-- how many drivers a net has: the port of its number, since the ports are the first nets, where it
-- is an input port, and each cell whose output it is
abbrev pub drivers_of : NetlistData → ℕ → ℕ
drivers_of n net =
    slice_index (map drives n.ports) net + count_by (λ cell. nat_eq cell.out.0 net) n.cells

-- the cell fits a netlist with so many nets: its nets are among them, and it has an input for each
-- pin of its kind but Z
pub record CellFits (nets : ℕ) (cell : Cell) : Type 0 where
  pub output : cell.out.0 < nets
  pub inputs : All (λ net. net.0 < nets) cell.ins.items
  pub pins : length cell.ins.items + 1 ≡ length (pins_of cell.kind)

-- the names of the nets at a cell's pins, in pin order with Z last
abbrev pub pin_names : List (List ℕ) → Cell → List (List ℕ)
pin_names nets cell = map (λ (net : NetId). slice_index_or nets net.0 []) (cell.ins.items ++ cell.out ∷ [])

-- what holds of every netlist, which `build` alone makes
pub record IsNetlist (n : NetlistData) : Type 0 where
  -- each net has exactly one driver
  pub driven : (net : ℕ) → net < length n.nets → drivers_of n net ≡ 1
  -- the nets of each cell are there, and it has an input for each pin of its kind but Z
  pub fits : All (CellFits (length n.nets)) n.cells
  -- the ports are the first nets, in header order
  pub ports_first : take (length n.ports) n.nets ≡ map (λ port. port.name) n.ports
  -- the nets stand in order of first appearance: the ports, then the others through the cells in order and
  -- the pins of each, so that a netlist is told whole by its ports and its cells with the names at their pins
  pub in_order : n.nets ≡ once_each (map (λ port. port.name) n.ports ++ flat_map (pin_names n.nets) n.cells)
  -- no two nets have one name, and no two cells
  pub net_names : AllDiffer n.nets
  pub cell_names : AllDiffer (map (λ cell. cell.name) n.cells)
  pub few_cells : length n.cells ≤ most_cells
  -- so few ports that the parts which say the netlist can be built again
  pub few_ports : length n.ports < 2 ^ 31
  -- a number of a net fits a `NetId`
  pub few_nets : length n.nets < 2 ^ 32
