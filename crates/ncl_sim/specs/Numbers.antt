-- The numbers of items, and in which direction the net of one goes.
use Rattle.std.specs.Prelude.{ℕ, ◌+◌, Bool, true, false, not, length, Option, Some, None, slice_get}
use Rattle.ncl_netlist.specs.declared.cell.Cell.{Cell}
use Rattle.ncl_shape.specs.declared.item.Item.{Item}
use Rattle.ncl_shape.specs.declared.item.Item.TheVariants.{Cell as Fire, Raise, Lower, Take, Ready}
use Rattle.ncl_shape.specs.Nets.{Nets}
use Rattle.ncl_shape.specs.Pipeline.{PipelineData}

-- the number of an item: the cells come in file order, then the bits of the source, then the sink
abbrev pub item_number : PipelineData → Item → ℕ
item_number p (Fire cell) = cell.0
item_number p (Raise bit) = length p.netlist.cells + bit
item_number p (Lower bit) = length p.netlist.cells + bit
item_number p Take = length p.netlist.cells + length p.inputs
item_number p Ready = length p.netlist.cells + length p.inputs

-- the output of a cell is low, so it rises where the cell fires
abbrev pub output_is_low : Nets → Option Cell → Bool
output_is_low v None = false
output_is_low v (Some c) = not (v c.out.0)

-- whether the net of an enabled item rises
abbrev pub rises : PipelineData → Nets → Item → Bool
rises p v (Fire cell) = output_is_low v (slice_get p.netlist.cells cell.0)
rises p v (Raise bit) = true
rises p v (Lower bit) = false
rises p v Take = false
rises p v Ready = true
