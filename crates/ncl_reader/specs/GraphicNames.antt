-- Names of printing characters, as all names of a netlist text are (IEEE 1364-2005, 3.7).
use Rattle.std.specs.Prelude.{◌≡◌, ℕ, true, List, All}
use Rattle.std.specs.List.{list_all}
use Rattle.ncl_token.specs.Bytes.{is_graphic}
use Rattle.ncl_netlist.specs.declared.port.Port.{Port}
use Rattle.ncl_netlist.specs.declared.cell.Cell.{Cell}
use Rattle.ncl_netlist.specs.Netlist.{NetlistData}

-- a name has printing characters other than the blank alone: each byte is one from 33 to 126
abbrev pub IsGraphicName : List ℕ → Type 0
IsGraphicName name = list_all is_graphic name ≡ true

-- the names of a netlist have printing characters alone: of its module, its ports, its nets and its cells
pub record HasGraphicNames (n : NetlistData) : Type 0 where
  pub title : IsGraphicName n.name
  pub ports : All (λ (port : Port). IsGraphicName port.name) n.ports
  pub nets : All IsGraphicName n.nets
  pub cells : All (λ (cell : Cell). IsGraphicName cell.name) n.cells
