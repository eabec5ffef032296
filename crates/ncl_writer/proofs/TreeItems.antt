-- What the tree of a netlist's text declares and joins.
use Rattle.ncl_writer.proofs.Terms.{All, All-head, All-tail, Ansi, AreScalar, AreWhole, Bool, Cell, CellFits, Conn, Direction, Group, IsNetlist, IsPlain, Item, Joined, List, NetId, NetlistData, None, Port, Row, Said, Some, [], all_of, ap, append-nil, arith, cell_name_of, directed_by, directed_in, false, flat_map, flat_map-append, get_or, group_names, groups_of, header_of, joined_in, length, length-map, length_push, map, pin_names, pins_of, pins_of-some, refl, said_by, said_in, said_in_header, subst, sym, true, way_output, zip, ℕ, ◌++◌, ◌<◌, ◌∙◌, ◌∷◌, ◌≡◌, ◌≢◌}
use Rattle.ncl_writer.proofs.Rows.{all_of-row_of}
use Rattle.ncl_writer.proofs.Tree.{ports_of, way_of, port_item, wire_item, wires_of, conns_of, conn_row, cell_item, head_of, items_of, tree_of}

abbrev pub names_of : List Port → List (List ℕ)
names_of ports = map (λ (port : Port). port.name) ports

-- the header has the names of the ports
pub header_of-head_of : (n : NetlistData) → header_of (head_of n) ≡ names_of n.ports
header_of-head_of n = by (names_of n.ports)
  where
    by : (names : List (List ℕ)) → header_of (record { name = n.name; ports = ports_of names }) ≡ names
    by [] = refl
    by (x ∷ xs) = all_of-row_of x xs

-- ---- of each kind of items by itself

module _ {A : Type 0} (f : Item → List A) where
  -- what wires and cells, or wires and ports, have none of
  none_of_wires : ((net : List ℕ) → f (wire_item net) ≡ []) → (nets : List (List ℕ)) → flat_map f (map wire_item nets) ≡ []
  none_of_wires none [] = refl
  none_of_wires none (net ∷ nets) = (λ i. none net i ++ flat_map f (map wire_item nets)) ∙ none_of_wires none nets

  none_of_ports : ((port : Port) → f (port_item port) ≡ []) → (ports : List Port) → flat_map f (map port_item ports) ≡ []
  none_of_ports none [] = refl
  none_of_ports none (port ∷ ports) = (λ i. none port i ++ flat_map f (map port_item ports)) ∙ none_of_ports none ports

  none_of_cells : (nets : List (List ℕ)) → ((cell : Cell) → f (cell_item nets cell) ≡ []) → (cells : List Cell) → flat_map f (map (cell_item nets) cells) ≡ []
  none_of_cells nets none [] = refl
  none_of_cells nets none (cell ∷ cells) = (λ i. none cell i ++ flat_map f (map (cell_item nets) cells)) ∙ none_of_cells nets none cells

  of_items : (n : NetlistData) → flat_map f (items_of n) ≡ flat_map f (map port_item n.ports) ++ (flat_map f (map wire_item (wires_of n)) ++ flat_map f (map (cell_item n.nets) n.cells))
  of_items n =
      flat_map-append f (map port_item n.ports) (map wire_item (wires_of n) ++ map (cell_item n.nets) n.cells)
      ∙ ap (λ l. flat_map f (map port_item n.ports) ++ l) (flat_map-append f (map wire_item (wires_of n)) (map (cell_item n.nets) n.cells))

  -- what the ports alone have
  of_ports : (n : NetlistData) → ((net : List ℕ) → f (wire_item net) ≡ []) → ((cell : Cell) → f (cell_item n.nets cell) ≡ []) → flat_map f (items_of n) ≡ flat_map f (map port_item n.ports)
  of_ports n wire cell =
      of_items n
      ∙ (λ i. flat_map f (map port_item n.ports) ++ (none_of_wires wire (wires_of n) i ++ none_of_cells n.nets cell n.cells i))
      ∙ append-nil (flat_map f (map port_item n.ports))

  -- what the cells alone have
  of_cells : (n : NetlistData) → ((port : Port) → f (port_item port) ≡ []) → ((net : List ℕ) → f (wire_item net) ≡ []) → flat_map f (items_of n) ≡ flat_map f (map (cell_item n.nets) n.cells)
  of_cells n port wire =
      of_items n ∙ (λ i. none_of_ports port n.ports i ++ (none_of_wires wire (wires_of n) i ++ flat_map f (map (cell_item n.nets) n.cells)))

-- ---- directions

-- each port has one direction, and nothing else has one
pub directed_by-items_of : (n : NetlistData) → directed_by (head_of n) (items_of n) ≡ names_of n.ports
directed_by-items_of n = ap (λ l. l ++ flat_map directed_in (items_of n)) (none_in (names_of n.ports)) ∙ of_ports directed_in n (λ net. refl) (λ cell. refl) ∙ each n.ports
  where
    none_in : (names : List (List ℕ)) → flat_map group_names (groups_of (ports_of names)) ≡ []
    none_in [] = refl
    none_in (x ∷ xs) = refl

    each : (ports : List Port) → flat_map directed_in (map port_item ports) ≡ names_of ports
    each [] = refl
    each (port ∷ ports) = ap (λ l. port.name ∷ l) (each ports)

-- what is said of a port
abbrev pub said_port : Port → Said
said_port port = record { name = port.name; output = port.output; range = None }

pub said_by-tree_of : (n : NetlistData) → said_by (tree_of n) ≡ map said_port n.ports
said_by-tree_of n = ap (λ l. l ++ flat_map said_in (items_of n)) (none_in (names_of n.ports)) ∙ of_ports said_in n (λ net. refl) (λ cell. refl) ∙ each n.ports
  where
    none_in : (names : List (List ℕ)) → flat_map said_in_header (groups_of (ports_of names)) ≡ []
    none_in [] = refl
    none_in (x ∷ xs) = refl

    one : (output : Bool) → way_output (way_of output) ≡ output
    one true = refl
    one false = refl

    each : (ports : List Port) → flat_map said_in (map port_item ports) ≡ map said_port ports
    each [] = refl
    each (port ∷ ports) = λ i. record { name = port.name; output = one port.output i; range = None } ∷ each ports i

-- no group stands in the header, and no range and no index
pub plain-tree_of : (n : NetlistData) → IsPlain (tree_of n)
plain-tree_of n = record { header = by (names_of n.ports); items = items }
  where
    by : (names : List (List ℕ)) (groups : Row (Group Direction)) → ports_of names ≢ Some (Ansi groups)
    by [] groups e = absurd cc
    by (x ∷ xs) groups e = absurd cc

    both : (xs ys : List Item) → AreScalar xs → AreScalar ys → AreScalar (xs ++ ys)
    both [] ys front back = back
    both (x ∷ xs) ys front back = (front.0, both xs ys front.1 back)

    ports_plain : (ports : List Port) → AreScalar (map port_item ports)
    ports_plain [] = tt
    ports_plain (port ∷ ports) = (refl, ports_plain ports)

    wires_plain : (nets : List (List ℕ)) → AreScalar (map wire_item nets)
    wires_plain [] = tt
    wires_plain (net ∷ nets) = (refl, wires_plain nets)

    zipped : (pins names : List (List ℕ)) → AreWhole (map (λ (pin, net). record { pin = pin; net = record { name = net; index = None } }) (zip pins names))
    zipped [] names = tt
    zipped (pin ∷ pins) [] = tt
    zipped (pin ∷ pins) (name ∷ names) = (refl, zipped pins names)

    row : (conns : List Conn) → AreWhole conns → AreWhole (all_of (conn_row conns))
    row [] whole = (refl, tt)
    row (conn ∷ conns) whole = subst AreWhole (sym (all_of-row_of conn conns)) whole

    cells_plain : (cells : List Cell) → AreScalar (map (cell_item n.nets) cells)
    cells_plain [] = tt
    cells_plain (cell ∷ cells) = (row (conns_of n.nets cell) (zipped (pins_of cell.kind) (pin_names n.nets cell)), cells_plain cells)

    items : AreScalar (items_of n)
    items = both (map port_item n.ports) _ (ports_plain n.ports) (both (map wire_item (wires_of n)) _ (wires_plain (wires_of n)) (cells_plain n.cells))

-- ---- instances

-- the pins that are joined are those of the cell, and the nets those at its pins
pins_zipped : (pins names : List (List ℕ)) → length pins ≡ length names → map (λ (c : Conn). c.pin) (map (λ (pin, net). record { pin = pin; net = record { name = net; index = None } }) (zip pins names)) ≡ pins
pins_zipped [] names same = refl
pins_zipped (pin ∷ pins) [] same = absurd (omega arith)
pins_zipped (pin ∷ pins) (name ∷ names) same = ap (λ l. pin ∷ l) (pins_zipped pins names (omega arith))

pub length-pin_names : (nets : List (List ℕ)) (cell : Cell) → CellFits (length nets) cell → length (pins_of cell.kind) ≡ length (pin_names nets cell)
length-pin_names nets cell fits =
    omega (arith, fits.pins, length-map (cell.ins.items ++ cell.out ∷ []) (λ (net : NetId). get_or nets net.0 []), length_push cell.ins.items cell.out)

pub pins_joined : (nets : List (List ℕ)) (cell : Cell) → CellFits (length nets) cell → map (λ (c : Conn). c.pin) (conns_of nets cell) ≡ pins_of cell.kind
pins_joined nets cell fits = pins_zipped (pins_of cell.kind) (pin_names nets cell) (length-pin_names nets cell fits)

-- an instance of a cell
abbrev pub joined_of : List (List ℕ) → Cell → Joined
joined_of nets cell = record { cell = cell_name_of cell.kind; name = cell.name; conns = conns_of nets cell }

all_of-conn_row : (conns : List Conn) → 0 < length conns → all_of (conn_row conns) ≡ conns
all_of-conn_row [] some = absurd (omega arith)
all_of-conn_row (conn ∷ conns) some = all_of-row_of conn conns

pub joined_in-items_of : (n : NetlistData) → IsNetlist n → flat_map joined_in (items_of n) ≡ map (joined_of n.nets) n.cells
joined_in-items_of n ok = of_cells joined_in n (λ port. refl) (λ net. refl) ∙ each n.cells ok.fits
  where
    one : (cell : Cell) → CellFits (length n.nets) cell → all_of (conn_row (conns_of n.nets cell)) ≡ conns_of n.nets cell
    one cell fits =
        all_of-conn_row (conns_of n.nets cell) (omega (arith, ap length (pins_joined n.nets cell fits), length-map (conns_of n.nets cell) (λ (c : Conn). c.pin), pins_of-some cell.kind))

    each : (cells : List Cell) → All (CellFits (length n.nets)) cells → flat_map joined_in (map (cell_item n.nets) cells) ≡ map (joined_of n.nets) cells
    each [] fits = refl
    each (cell ∷ cells) fits =
        let first = one cell (All-head (CellFits (length n.nets)) cell cells fits) in
        let rest = each cells (All-tail (CellFits (length n.nets)) cell cells fits) in
        λ i. record { cell = cell_name_of cell.kind; name = cell.name; conns = first i } ∷ rest i
