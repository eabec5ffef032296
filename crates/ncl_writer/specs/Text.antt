-- The text of a netlist: a structural module (a part of IEEE 1364-2005), with one declaration or instance
-- a line.
use Rattle.std.specs.Prelude.{ℕ, List, [], ◌∷◌, ◌++◌, map, length, drop, if◌then◌else◌, codes}
use Rattle.std.specs.List.{flat_map, join_with_byte, zip}
use Rattle.ncl_gates.specs.Cell.{pins_of}
use Rattle.ncl_gates.specs.Name.{cell_name_of}
use Rattle.ncl_netlist.specs.declared.port.Port.{Port}
use Rattle.ncl_netlist.specs.declared.cell.Cell.{Cell}
use Rattle.ncl_netlist.specs.Netlist.{NetlistData, pin_names}
use Rattle.ncl_writer.specs.Names.{spelled_name}

-- a parenthesis and what follows it, with commas (44) between; nothing where nothing follows
abbrev pub opened : List (List ℕ) → List ℕ
opened [] = []
opened (text ∷ texts) = codes "(" ++ join_with_byte 44 (text ∷ texts)

-- what closes a parenthesis that stands
abbrev pub closed : List (List ℕ) → List ℕ
closed [] = []
closed (text ∷ texts) = codes ")"

-- module NAME(P,P,P);   without ports   module NAME;
abbrev pub header_line : List ℕ → List Port → List ℕ
header_line name ports =
    let names = map (λ (port : Port). spelled_name port.name) ports in
    codes "module " ++ (spelled_name name ++ (opened names ++ (closed names ++ codes ";\n")))

-- input P;   or   output P;
abbrev pub port_line : Port → List ℕ
port_line port = (if port.output then codes "output " else codes "input ") ++ (spelled_name port.name ++ codes ";\n")

-- wire N;
abbrev pub wire_line : List ℕ → List ℕ
wire_line net = codes "wire " ++ (spelled_name net ++ codes ";\n")

-- .A(N)
abbrev pub pin_text : List ℕ → List ℕ → List ℕ
pin_text pin net = codes "." ++ (pin ++ (codes "(" ++ (spelled_name net ++ codes ")")))

-- the pins of a cell in their order, each with its net
abbrev pub pin_texts : List (List ℕ) → Cell → List (List ℕ)
pin_texts nets cell = map (λ (pin, net). pin_text pin net) (zip (pins_of cell.kind) (pin_names nets cell))

-- KIND NAME(.A(N),.B(N),.Z(N));
abbrev pub cell_line : List (List ℕ) → Cell → List ℕ
cell_line nets cell =
    cell_name_of cell.kind ++ (codes " " ++ (spelled_name cell.name ++ (opened (pin_texts nets cell) ++ codes ");\n")))

-- the header, the ports in its order, the other nets in the order of their numbers, and the cells
abbrev pub text_of : NetlistData → List ℕ
text_of n =
    header_line n.name n.ports
    ++ (flat_map port_line n.ports
    ++ (flat_map wire_line (drop (length n.ports) n.nets)
    ++ (flat_map (cell_line n.nets) n.cells ++ codes "endmodule\n")))
