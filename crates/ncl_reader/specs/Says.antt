-- What a text says, read off its tree.
use Rattle.std.specs.Prelude.{◌≡◌, ℕ, List, [], ◌∷◌, ◌++◌, map, Option, Some, None, unwrap_or, Bool, true, false}
use Rattle.std.specs.List.{flat_map, find}
use Rattle.std.specs.Option.{option_map}
use Rattle.std.specs.Str.{bytes_eq}
use Rattle.std.specs.Str.Parse.{digits_value}
use Rattle.ncl_gates.specs.Name.{cell_name_of}
use Rattle.ncl_gates.specs.Cell.{pins_of}
use Rattle.ncl_netlist.specs.declared.port.Port.{Port}
use Rattle.ncl_netlist.specs.declared.parts.PartCell.{PartCell}
use Rattle.ncl_netlist.specs.declared.parts.Parts.{Parts}
use Rattle.ncl_reader.specs.declared.keyword.Way.{Way}
use Rattle.ncl_reader.specs.declared.keyword.Way.TheVariants.{Input, Output}
use Rattle.ncl_reader.specs.Grammar.{all_of, Direction, Plain, Wired, Lead, Gives, Wires, Range, Group, group_names, Net, Conn, Item, Declares, Joins, Text, groups_of, header_of}
use Rattle.ncl_reader.specs.Vectors.{span_of, numbers_of, bit_name}

-- an instance of a text: the name of its cell, its own name and its connections
pub record Joined : Type 0 where
  pub cell : List ℕ
  pub name : List ℕ
  pub conns : List Conn

abbrev pub joined_in : Item → List Joined
joined_in (Declares group) = []
joined_in (Joins cell name conns) = record { cell = cell; name = name; conns = all_of conns } ∷ []

-- what is said of a port: whether it is an output, and its range
pub record Said : Type 0 where
  pub name : List ℕ
  pub output : Bool
  pub range : Option Range

abbrev pub way_output : Way → Bool
way_output Input = false
way_output Output = true

abbrev pub is_output : Direction → Bool
is_output (Plain way) = way_output way
is_output (Wired way) = way_output way

-- what a declaration with a direction says
abbrev pub said_of : Direction → Option Range → List (List ℕ) → List Said
said_of direction range names = map (λ x. record { name = x; output = is_output direction; range = range }) names

abbrev pub said_in_header : Group Direction → List Said
said_in_header group = said_of group.spec.lead group.spec.range (group_names group)

abbrev pub said_in : Item → List Said
said_in (Declares group) = by_lead group.spec.lead
  where
    by_lead : Lead → List Said
    by_lead (Gives direction) = said_of direction group.spec.range (group_names group)
    by_lead Wires = []
said_in (Joins cell name conns) = []

abbrev pub said_by : Text → List Said
said_by text = flat_map said_in_header (groups_of text.head.ports) ++ flat_map said_in text.items

-- the ports of a name: itself, or the bits from the first to the last
abbrev pub bits_of : List ℕ → Option Range → List (List ℕ)
bits_of name None = name ∷ []
bits_of name (Some range) = map (bit_name name) (numbers_of (span_of range))

abbrev pub ports_of : Option Said → List Port
ports_of None = []
ports_of (Some said) = map (λ bit. record { name = bit; output = said.output }) (bits_of said.name said.range)

abbrev pub ports_said : Text → List ℕ → List Port
ports_said text x = ports_of (find (λ (said : Said). bytes_eq said.name x) (said_by text))

-- the name of a net
abbrev pub net_name : Net → List ℕ
net_name net = by_index net.index
  where
    by_index : Option (List ℕ) → List ℕ
    by_index None = net.name
    by_index (Some digits) = bit_name net.name (digits_value 10 digits)

-- the net on a pin
abbrev pub net_on : List Conn → List ℕ → Option (List ℕ)
net_on conns pin = option_map (λ (c : Conn). net_name c.net) (find (λ (c : Conn). bytes_eq c.pin pin) conns)

-- the cell that an instance says: of the kind of the name, each pin on its net by the name of the pin
pub record IsCellOf (joined : Joined) (cell : PartCell) : Type 0 where
  pub kind : cell_name_of cell.kind ≡ joined.cell
  pub name : cell.name ≡ joined.name
  pub pins : cell.pins ≡ map (λ pin. unwrap_or (net_on joined.conns pin) []) (pins_of cell.kind)

-- one cell for each instance, in order
abbrev pub AreCellsOf : List Joined → List PartCell → Type 0
AreCellsOf [] [] = Unit {0}
AreCellsOf (j ∷ js) (c ∷ cs) = IsCellOf j c × AreCellsOf js cs
AreCellsOf js cs = ⊥

-- the parts are what the text says: `wire` says nothing
pub record Says (text : Text) (parts : Parts) : Type 0 where
  pub title : parts.«module» ≡ text.head.name
  pub ports : parts.ports ≡ flat_map (ports_said text) (header_of text.head)
  pub cells : AreCellsOf (flat_map joined_in text.items) parts.cells
