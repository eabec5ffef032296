-- An order of all cells in which a gate cell stands after those that drive its pins.
use Rattle.std.specs.Prelude.{◌≡◌, ◌≢◌, ℕ, ◌<◌, List, ◌∷◌, ◌++◌, length, All, AllPairs, Contains, Option, Some}
use Rattle.ncl_netlist.specs.declared.ids.NetId.{NetId}
use Rattle.ncl_netlist.specs.declared.cell.Cell.{Cell}
use Rattle.ncl_netlist.specs.Netlist.{NetlistData}
use Rattle.ncl_cell_rules.specs.Origin.{CellAt, IsGate, ReadsNet, IsInputPort}
use Rattle.ncl_cell_rules.specs.declared.source.Source.{Source}
use Rattle.ncl_cell_rules.specs.Sources.{IsSourceOf, source_at}
use Rattle.ncl_cell_rules.specs.GateGraph.{Drives, driver_at}

-- each cell stands once, and a gate cell after the cells that drive its pins
pub record IsCellOrder (n : NetlistData) (order : List ℕ) : Type 0 where
  pub inside : All (λ k. k < length n.cells) order
  pub every : (k : ℕ) → k < length n.cells → Contains order k
  pub once : AllPairs (λ i j. i ≢ j) order
  pub reads : (before : List ℕ) (k : ℕ) (rest : List ℕ) → order ≡ before ++ k ∷ rest → (c : Cell) → CellAt n k c → IsGate c → (net j : ℕ) → ReadsNet c net → Drives n j net → Contains before j

-- by the table, the cell that drives the net stands before the place, if one does
abbrev pub IsDrivenBefore : List (Option ℕ) → ℕ → NetId → Type 0
IsDrivenBefore drivers place net = (j : ℕ) → driver_at drivers net.0 ≡ Some j → j < place

-- by the table, a gate cell at the place stands after those that drive its pins
abbrev pub StandsLater : NetlistData → List (Option ℕ) → ℕ → Type 0
StandsLater n drivers k = (c : Cell) → CellAt n k c → IsGate c → All (IsDrivenBefore drivers k) c.ins.items

-- the table has the source of each input port, and of each net that a cell at one of the places drives
pub record AreSourcesOf (n : NetlistData) (places : List ℕ) (sources : List Source) : Type 0 where
  pub sized : length sources ≡ length n.nets
  pub ports : (net : ℕ) → IsInputPort n net → IsSourceOf n net (source_at sources net)
  pub driven : (k net : ℕ) → Contains places k → Drives n k net → IsSourceOf n net (source_at sources net)

-- the table has the source of each net
pub record AreSources (n : NetlistData) (sources : List Source) : Type 0 where
  pub sized : length sources ≡ length n.nets
  pub each : (net : ℕ) → net < length n.nets → IsSourceOf n net (source_at sources net)
