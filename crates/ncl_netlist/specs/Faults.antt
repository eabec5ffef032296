-- The rules for parts, in the order in which they are asked, and the fault where one is broken.
use Rattle.std.specs.Prelude.{◌≡◌, ℕ, ◌+◌, ◌<◌, ◌≤◌, List, map, length, slice_index, count_by, nat_eq, EachIndex}
use Rattle.ncl_netlist.specs.declared.cell.Cell.{Cell}
use Rattle.ncl_netlist.specs.declared.parts.Parts.{Parts}
use Rattle.ncl_netlist.specs.declared.port.Port.{Port}
use Rattle.ncl_netlist.specs.declared.build_fault.BuildFault.{BuildFault}
use Rattle.ncl_netlist.specs.declared.build_fault.BuildFault.TheVariants.{TooMany, SameName, TwoDrivers, NoDriver, Memory}
use Rattle.ncl_netlist.specs.Names.{AllDiffer, Repeats, IsFirstWhere}
use Rattle.ncl_netlist.specs.Netlist.{most_cells, drives, drivers_of}
use Rattle.ncl_netlist.specs.Parts.{cell_names, nets_of, netlist_of}

-- how many drivers the net of this number has
abbrev pub drivers_at : Parts → ℕ → ℕ
drivers_at parts net = drivers_of (netlist_of parts) net

-- there are at most 131,072 cells
abbrev pub HasFewCells : Parts → Type 0
HasFewCells parts = length parts.cells ≤ most_cells

-- no two cells have one name
abbrev pub HasOwnCellNames : Parts → Type 0
HasOwnCellNames parts = AllDiffer (cell_names parts)

-- no net has two drivers
abbrev pub HasNoTwoDrivers : Parts → Type 0
HasNoTwoDrivers parts = (net : ℕ) → net < length (nets_of parts) → drivers_at parts net ≤ 1

-- each net has a driver
abbrev pub HasAllDrivers : Parts → Type 0
HasAllDrivers parts = (net : ℕ) → net < length (nets_of parts) → 1 ≤ drivers_at parts net

-- no rule is broken
abbrev pub IsFaultless : Parts → Type 0
IsFaultless parts =
    HasFewCells parts × HasOwnCellNames parts × HasNoTwoDrivers parts × HasAllDrivers parts

-- the fault of parts: that of the first rule that is broken, with the name of the first cell, or of
-- the first net, that breaks it. Want of memory is no fault of the parts, and may come at all of them
abbrev pub IsFaultOf : Parts → BuildFault → Type 0
IsFaultOf parts TooMany = most_cells < length parts.cells
IsFaultOf parts (SameName x) =
    HasFewCells parts × IsFirstWhere (Repeats (cell_names parts)) (cell_names parts) x
IsFaultOf parts (TwoDrivers x) =
    HasFewCells parts × HasOwnCellNames parts × IsFirstWhere (λ net. 2 ≤ drivers_at parts net) (nets_of parts) x
IsFaultOf parts (NoDriver x) =
    HasFewCells parts × HasOwnCellNames parts × HasNoTwoDrivers parts
    × IsFirstWhere (λ net. drivers_at parts net ≡ 0) (nets_of parts) x
IsFaultOf parts Memory = Unit {0}

-- the counts of the drivers of so many nets, of which the ports are the first
pub record AreCounts (ports : List Port) (cells : List Cell) (nets : ℕ) (counts : List ℕ) : Type 0 where
  pub long : length counts ≡ nets
  pub are : (net : ℕ) → net < nets → slice_index counts net ≡ slice_index (map drives ports) net + count_by (λ cell. nat_eq cell.out.0 net) cells

-- the fault of nets that have these counts of drivers
abbrev pub IsFaultOfCounts : List ℕ → List (List ℕ) → BuildFault → Type 0
IsFaultOfCounts counts nets TooMany = ⊥
IsFaultOfCounts counts nets (SameName x) = ⊥
IsFaultOfCounts counts nets (TwoDrivers x) = IsFirstWhere (λ net. 2 ≤ slice_index counts net) nets x
IsFaultOfCounts counts nets (NoDriver x) =
    EachIndex counts (λ net. slice_index counts net ≤ 1)
    × IsFirstWhere (λ net. slice_index counts net ≡ 0) nets x
IsFaultOfCounts counts nets Memory = Unit {0}
