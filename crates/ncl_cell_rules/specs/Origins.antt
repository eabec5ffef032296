-- What the first five rules of shape leave known of a netlist, and what breaks one of them.
use Rattle.std.specs.Prelude.{◌≡◌, ℕ, Bool, List, Option}
use Rattle.ncl_netlist.specs.declared.cell.Cell.{Cell}
use Rattle.ncl_netlist.specs.Netlist.{NetlistData}
use Rattle.ncl_cell_rules.specs.declared.fault.CellFault.{CellFault}
use Rattle.ncl_cell_rules.specs.declared.fault.CellFault.TheVariants.{UnusedPort, Cycle, Unpaired, Mixed, Loose, Memory}
use Rattle.ncl_cell_rules.specs.declared.source.Source.{Source}
use Rattle.ncl_cell_rules.specs.Origin.{OnPin, A, B}
use Rattle.ncl_cell_rules.specs.Sources.{source_at}
use Rattle.ncl_cell_rules.specs.Rules.{IsFirstOfBank, IsReadPort, IsOffCycles, IsPaired, IsUnmixed, IsTied}
use Rattle.ncl_cell_rules.specs.Free.{AtCell, FailsFirst}
use Rattle.ncl_cell_rules.specs.GateGraph.{AreDrivers}
use Rattle.ncl_cell_rules.specs.CellOrder.{IsCellOrder, AreSources}
use Rattle.ncl_cell_rules.specs.Tables.{AreFirsts, AreDataBanks}

-- a netlist with tables that have an entry for each of its nets, and an order of its cells
pub record OriginsData : Type 0 where
  pub netlist : NetlistData
  pub drivers : List (Option ℕ)
  pub firsts : List (Option ℕ)
  pub data_banks : List Bool
  pub order : List ℕ
  pub sources : List Source

-- the tables are those of the netlist
pub record AreOrigins (n : NetlistData) (o : OriginsData) : Type 0 where
  pub drivers : AreDrivers n o.drivers
  pub firsts : AreFirsts n o.firsts
  pub data_banks : AreDataBanks n o.data_banks
  pub order : IsCellOrder n o.order
  pub sources : AreSources n o.sources

-- by the table, the rail on A of a register cell comes from where that of the first register cell of its bank does
pub record IsAsFirst (n : NetlistData) (sources : List Source) (c : Cell) : Type 0 where
  pub request : ℕ
  pub first : Cell
  pub net : ℕ
  pub first_net : ℕ
  pub on_b : OnPin c B request
  pub is_first : IsFirstOfBank n request first
  pub on_a : OnPin c A net
  pub first_on_a : OnPin first A first_net
  pub same : source_at sources net ≡ source_at sources first_net

-- the first rules one by one, over all ports or cells
abbrev pub ArePortsRead : NetlistData → Type 0
ArePortsRead n = (net : ℕ) → IsReadPort n net

abbrev pub AreOffCycles : NetlistData → Type 0
AreOffCycles n = (k : ℕ) → AtCell IsOffCycles n k

abbrev pub ArePaired : NetlistData → Type 0
ArePaired n = (k : ℕ) → AtCell IsPaired n k

abbrev pub AreUnmixed : NetlistData → Type 0
AreUnmixed n = (k : ℕ) → AtCell IsUnmixed n k

-- what is answered where there is no order of the cells: the first gate cell on a cycle
abbrev pub IsOrderFault : NetlistData → CellFault → Type 0
IsOrderFault n (Cycle cell) = FailsFirst (AtCell IsOffCycles n) cell.0
IsOrderFault n (UnusedPort net) = ⊥
IsOrderFault n (Unpaired cell) = ⊥
IsOrderFault n (Mixed cell) = ⊥
IsOrderFault n (Loose cell) = ⊥
IsOrderFault n Memory = Unit {0}

-- what is answered where one of the first five rules is broken: the first of them, at its first place. Want of
-- memory is no fault of the netlist, and may come at all of them
abbrev pub IsCellFault : NetlistData → CellFault → Type 0
IsCellFault n (UnusedPort net) = FailsFirst (IsReadPort n) net.0
IsCellFault n (Cycle cell) = ArePortsRead n × FailsFirst (AtCell IsOffCycles n) cell.0
IsCellFault n (Unpaired cell) = ArePortsRead n × AreOffCycles n × FailsFirst (AtCell IsPaired n) cell.0
IsCellFault n (Mixed cell) = ArePortsRead n × AreOffCycles n × ArePaired n × FailsFirst (AtCell IsUnmixed n) cell.0
IsCellFault n (Loose cell) = ArePortsRead n × AreOffCycles n × ArePaired n × AreUnmixed n × FailsFirst (AtCell IsTied n) cell.0
IsCellFault n Memory = Unit {0}
