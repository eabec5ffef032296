-- The tree of the text of a netlist.
use Rattle.ncl_writer.proofs.Terms.{Bool, Cell, Conn, Declares, Gives, Head, Input, Item, Joins, Lead, List, Listing, Names, NetlistData, None, Option, Output, Plain, Port, Row, Some, Text, Way, Wires, [], cell_name_of, drop, false, length, map, pin_names, pins_of, true, zip, ℕ, ◌++◌, ◌∷◌}
use Rattle.ncl_writer.proofs.Rows.{row_of}

abbrev pub ports_of : List (List ℕ) → Option Listing
ports_of [] = None
ports_of (x ∷ xs) = Some (Names (row_of x xs))

abbrev pub way_of : Bool → Way
way_of true = Output
way_of false = Input

-- a declaration of one name
abbrev pub declared : Lead → List ℕ → Item
declared lead name = Declares (record { spec = record { lead = lead; range = None }; names = record { before = []; last = name } })

abbrev pub port_item : Port → Item
port_item port = declared (Gives (Plain (way_of port.output))) port.name

abbrev pub wire_item : List ℕ → Item
wire_item net = declared Wires net

-- the pins of a cell with their nets
abbrev pub conns_of : List (List ℕ) → Cell → List Conn
conns_of nets cell = map (λ (pin, net). record { pin = pin; net = record { name = net; index = None } }) (zip (pins_of cell.kind) (pin_names nets cell))

-- a row of pins, of which each cell has some
abbrev pub conn_row : List Conn → Row Conn
conn_row [] = record { before = []; last = record { pin = []; net = record { name = []; index = None } } }
conn_row (conn ∷ conns) = row_of conn conns

abbrev pub cell_item : List (List ℕ) → Cell → Item
cell_item nets cell = Joins (cell_name_of cell.kind) cell.name (conn_row (conns_of nets cell))

-- the nets that are no ports
abbrev pub wires_of : NetlistData → List (List ℕ)
wires_of n = drop (length n.ports) n.nets

abbrev pub head_of : NetlistData → Head
head_of n = record { name = n.name; ports = ports_of (map (λ (port : Port). port.name) n.ports) }

abbrev pub items_of : NetlistData → List Item
items_of n = map port_item n.ports ++ (map wire_item (wires_of n) ++ map (cell_item n.nets) n.cells)

abbrev pub tree_of : NetlistData → Text
tree_of n = record { head = head_of n; items = items_of n }
