-- What one step does to the nets.
use Rattle.std.specs.Prelude.{◌≡◌, ◌≢◌, ℕ, not, Option, None, Some, slice_get}
use Rattle.ncl_netlist.specs.declared.cell.Cell.{Cell}
use Rattle.ncl_shape.specs.declared.item.Item.{Item}
use Rattle.ncl_shape.specs.declared.item.Item.TheVariants.{Cell as Fire, Raise, Lower, Take, Ready}
use Rattle.ncl_shape.specs.Nets.{Nets}
use Rattle.ncl_shape.specs.Pipeline.{PipelineData}
use Rattle.ncl_machine.specs.State.{State}
use Rattle.ncl_machine.specs.Steps.{current_rails}

-- one net has its other value, and each other net has the value that it had
pub record ChangesOneNet (before after : Nets) : Type 0 where
  pub net : ℕ
  pub changed : after net ≡ not (before net)
  pub others : (other : ℕ) → net ≢ other → after other ≡ before other

-- the net that a cell drives
abbrev pub out_at : Option Cell → Option ℕ
out_at None = None
out_at (Some c) = Some c.out.0

-- the net that an item changes: what a cell drives, the rail of a bit that the current word names, or `ki`
abbrev pub net_of_step : PipelineData → State → Item → Option ℕ
net_of_step p s (Fire cell) = out_at (slice_get p.netlist.cells cell.0)
net_of_step p s (Raise bit) = slice_get (current_rails p s) bit
net_of_step p s (Lower bit) = slice_get (current_rails p s) bit
net_of_step p s Take = Some p.ki
net_of_step p s Ready = Some p.ki
