-- The netlist that parts describe, before any rule is asked. Parts name the net at each pin of a
-- cell, as the instances of a structural module do (IEEE 1364-2005).
use Rattle.std.specs.Prelude.{◌≡◌, ℕ, ◌-◌, List, [], ◌++◌, map, take, length, slice_index_or}
use Rattle.std.specs.List.{flat_map}
use Rattle.ncl_gates.specs.Cell.{pins_of}
use Rattle.ncl_netlist.specs.declared.ids.NetId.{NetId}
use Rattle.ncl_netlist.specs.declared.cell.Cell.{Cell}
use Rattle.ncl_netlist.specs.declared.parts.PartCell.{PartCell}
use Rattle.ncl_netlist.specs.declared.parts.Parts.{Parts}
use Rattle.ncl_netlist.specs.Names.{once_each, name_number}
use Rattle.ncl_netlist.specs.Netlist.{NetlistData, pin_names}

-- the cell has one net for each pin of its kind
abbrev pub HasAllPins : PartCell → Type 0
HasAllPins cell = length cell.pins ≡ length (pins_of cell.kind)

-- the names of the ports in header order
abbrev pub port_names : Parts → List (List ℕ)
port_names parts = map (λ port. port.name) parts.ports

-- the names of the cells in order
abbrev pub cell_names : Parts → List (List ℕ)
cell_names parts = map (λ cell. cell.name) parts.cells

-- the nets: the ports as in the header, and then each other name where it comes first, cell by cell and pin
-- by pin
abbrev pub nets_of : Parts → List (List ℕ)
nets_of parts = once_each (port_names parts ++ flat_map (λ cell. cell.pins) parts.cells)

-- the names at the input pins, which are all but the last
abbrev pub input_names : PartCell → List (List ℕ)
input_names cell = take (length cell.pins - 1) cell.pins

-- the name at the last pin, which is the output Z
abbrev pub output_name : PartCell → List ℕ
output_name cell = slice_index_or cell.pins (length cell.pins - 1) []

-- the number of the net of a name
abbrev pub net_of : List (List ℕ) → List ℕ → NetId
net_of nets x = record { 0 = name_number nets x }

-- the cell, with the numbers of its nets in place of their names
abbrev pub cell_of : List (List ℕ) → PartCell → Cell
cell_of nets cell = record {
  kind = cell.kind;
  name = cell.name;
  ins = record { items = map (net_of nets) (input_names cell) };
  out = net_of nets (output_name cell);
}

-- the netlist: its nets in their order, and each cell with the numbers of its nets
abbrev pub netlist_of : Parts → NetlistData
netlist_of parts = record {
  name = parts.«module»;
  ports = parts.ports;
  nets = nets_of parts;
  cells = map (cell_of (nets_of parts)) parts.cells;
}

-- the cell, with the names of its nets in place of their numbers
abbrev pub part_of : List (List ℕ) → Cell → PartCell
part_of nets cell = record {
  kind = cell.kind;
  name = cell.name;
  pins = pin_names nets cell;
}

-- the parts that say a netlist: its ports, and each cell with the names of its nets
abbrev pub parts_said : NetlistData → Parts
parts_said n = record {
  «module» = n.name;
  ports = n.ports;
  cells = map (part_of n.nets) n.cells;
}
