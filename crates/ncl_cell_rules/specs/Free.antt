-- The first five rules of shape over a whole netlist, and the first place that breaks one.
use Rattle.std.specs.Prelude.{ℕ, ◌<◌}
use Rattle.ncl_netlist.specs.declared.cell.Cell.{Cell}
use Rattle.ncl_netlist.specs.Netlist.{NetlistData}
use Rattle.ncl_cell_rules.specs.Origin.{CellAt}
use Rattle.ncl_cell_rules.specs.Rules.{IsReadPort, IsOffCycles, IsPaired, IsUnmixed, IsTied}

-- a rule of cells, at a place
abbrev pub AtCell : (NetlistData → Cell → Type 0) → NetlistData → ℕ → Type 0
AtCell Rule n k = (c : Cell) → CellAt n k c → Rule n c

-- the first five rules, of each port and each cell
pub record IsFree (n : NetlistData) : Type 0 where
  pub ports_read : (net : ℕ) → IsReadPort n net
  pub off_cycles : (k : ℕ) (c : Cell) → CellAt n k c → IsOffCycles n c
  pub paired : (k : ℕ) (c : Cell) → CellAt n k c → IsPaired n c
  pub unmixed : (k : ℕ) (c : Cell) → CellAt n k c → IsUnmixed n c
  pub tied : (k : ℕ) (c : Cell) → CellAt n k c → IsTied n c

-- the least place, of a port or a cell, at which something fails
pub record FailsFirst (Holds : ℕ → Type 0) (k : ℕ) : Type 0 where
  pub fails : Holds k → ⊥
  pub before : (j : ℕ) → j < k → Holds j
