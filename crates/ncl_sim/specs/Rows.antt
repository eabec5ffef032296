-- Rows: what a look at a cell needs of it, one beside the other.
use Rattle.std.specs.Prelude.{◌≡◌, ℕ, ◌<◌, Bool, true, false, not, List, length, Option, None, Some, slice_get, slice_index_or}
use Rattle.ncl_gates.specs.Bits.{is_set}
use Rattle.ncl_gates.specs.NextWord.{IsNextWord, place_of_values}
use Rattle.ncl_netlist.specs.declared.cell.Cell.{Cell}
use Rattle.ncl_netlist.specs.declared.ids.NetId.{NetId}
use Rattle.ncl_cell_rules.specs.Origin.{CellAt}
use Rattle.ncl_shape.specs.Nets.{Nets}
use Rattle.ncl_shape.specs.Pipeline.{PipelineData}
use Rattle.ncl_machine.specs.State.{State}
use Rattle.ncl_machine.specs.Steps.{differ, enabled}
use Rattle.ncl_delay.specs.Delays.{DelaysData, delay_of, edge, edges_of_cell}
use Rattle.ncl_delay.specs.declared.delays.Edges.{Edges}
use Rattle.ncl_sim.specs.Numbers.{rises}
use Rattle.ncl_sim.specs.Candidates.{candidate}
use Rattle.ncl_sim.specs.declared.rows.Row.{Row}

-- the net at an input pin of a cell, or its output where it has no such pin
abbrev pub pin_or_output : Cell → ℕ → NetId
pin_or_output c pin = slice_index_or c.ins.items pin c.out

-- the row is of this cell, with these delays
pub record IsRowOf (e : Edges) (c : Cell) (row : Row) : Type 0 where
  pub word : IsNextWord c.kind row.word
  pub first : row.first ≡ pin_or_output c 0
  pub second : row.second ≡ pin_or_output c 1
  pub third : row.third ≡ pin_or_output c 2
  pub fourth : row.fourth ≡ pin_or_output c 3
  pub output : row.output ≡ c.out
  pub delays : row.delays ≡ e

-- row k is of cell k of the netlist, with these delays
pub record AreRowsOf (p : PipelineData) (d : DelaysData) (rows : List Row) : Type 0 where
  pub count : length rows ≡ length p.netlist.cells
  pub each : (k : ℕ) (c : Cell) (row : Row) → CellAt p.netlist k c → slice_get rows k ≡ Some row → IsRowOf (edges_of_cell d (record { 0 = k })) c row

-- the nets of the row are among so many
pub record HasNetsBelow (count : ℕ) (row : Row) : Type 0 where
  pub first : row.first.0 < count
  pub second : row.second.0 < count
  pub third : row.third.0 < count
  pub fourth : row.fourth.0 < count
  pub output : row.output.0 < count

-- the next value by a row: the bit of its word at the place of the values of its nets
abbrev pub next_by_row : Nets → Row → Bool
next_by_row v row = is_set row.word (place_of_values (v row.first.0) (v row.second.0) (v row.third.0) (v row.fourth.0) (v row.output.0))

-- the cell is excited, by its row
abbrev pub is_excited_by_row : Nets → Row → Bool
is_excited_by_row v row = differ (next_by_row v row) (v row.output.0)

-- where the cell of a row is excited, the answer is its delay, and else there is none
abbrev pub IsDelayOfRow : Nets → Row → Option ℕ → Type 0
IsDelayOfRow v row None = is_excited_by_row v row ≡ false
IsDelayOfRow v row (Some delay) = (is_excited_by_row v row ≡ true) × (delay ≡ edge row.delays (not (v row.output.0)))

-- where the candidate of a number is enabled, the answer is its delay, and else there is none
abbrev pub IsDelayAt : PipelineData → DelaysData → State → ℕ → Option ℕ → Type 0
IsDelayAt p d s k None = enabled p s (candidate p s k) ≡ false
IsDelayAt p d s k (Some delay) = (enabled p s (candidate p s k) ≡ true) × (delay ≡ delay_of d (candidate p s k) (rises p s.value (candidate p s k)))
