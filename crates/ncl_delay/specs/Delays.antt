-- Delays of items.
use Rattle.std.specs.Prelude.{ℕ, ◌≤◌, Bool, true, false, List, Option, Some, None, IfSome, All, slice_get}
use Rattle.ncl_netlist.specs.declared.ids.CellId.{CellId}
use Rattle.ncl_shape.specs.declared.item.Item.{Item}
use Rattle.ncl_shape.specs.declared.item.Item.TheVariants.{Cell as Fire, Raise, Lower, Take, Ready}
use Rattle.ncl_delay.specs.declared.delays.Edges.{Edges}
use Rattle.ncl_delay.specs.declared.delays.TheConstants.{MOST_DELAY}

-- the delays of a netlist: of each cell where they are stated of it, of the other cells, of the source and of
-- the sink
pub record DelaysData : Type 0 where
  pub default : Edges
  pub cells : List (Option Edges)
  pub source : Edges
  pub sink : Edges

-- what is stated at a place, or the default
abbrev pub stated_or : Edges → Option (Option Edges) → Edges
stated_or default None = default
stated_or default (Some None) = default
stated_or default (Some (Some edges)) = edges

-- the delays of a cell
abbrev pub edges_of_cell : DelaysData → CellId → Edges
edges_of_cell d cell = stated_or d.default (slice_get d.cells cell.0)

-- the delays of an item
abbrev pub edges_of : DelaysData → Item → Edges
edges_of d (Fire cell) = edges_of_cell d cell
edges_of d (Raise bit) = d.source
edges_of d (Lower bit) = d.source
edges_of d Take = d.sink
edges_of d Ready = d.sink

-- the delay of rising, or of falling
abbrev pub edge : Edges → Bool → ℕ
edge e true = e.rise
edge e false = e.fall

-- the delay of an item whose net rises, or falls
abbrev pub delay_of : DelaysData → Item → Bool → ℕ
delay_of d item rising = edge (edges_of d item) rising

-- a number is a delay: from 1 to 1,000,000
pub record IsDelay (n : ℕ) : Type 0 where
  pub some : 1 ≤ n
  pub most : n ≤ MOST_DELAY

pub record AreDelays (e : Edges) : Type 0 where
  pub rise : IsDelay e.rise
  pub fall : IsDelay e.fall

-- what holds of all delays
pub record HasDelays (d : DelaysData) : Type 0 where
  pub default : AreDelays d.default
  pub cells : All (λ stated. IfSome stated AreDelays) d.cells
  pub source : AreDelays d.source
  pub sink : AreDelays d.sink
