-- Delays as one statement after another is put into them.
use Rattle.std.specs.Prelude.{ℕ, List, Some, None, replicate, slice_set}
use Rattle.ncl_netlist.specs.Names.{name_number}
use Rattle.ncl_delay.specs.declared.delays.Edges.{Edges}
use Rattle.ncl_delay.specs.declared.statement.Subject.{Subject}
use Rattle.ncl_delay.specs.declared.statement.Subject.TheVariants.{Default, Source, Sink, Cell}
use Rattle.ncl_delay.specs.Delays.{DelaysData}
use Rattle.ncl_delay.specs.DelayText.{unit_edges}

-- the delays of so many cells where nothing is stated
abbrev pub unstated : ℕ → DelaysData
unstated cells = record { default = unit_edges; cells = replicate cells None; source = unit_edges; sink = unit_edges }

-- the delays with these in place of those of a subject, where the cells have these names
abbrev pub put_edges : List (List ℕ) → DelaysData → Edges → Subject → DelaysData
put_edges names d edges Default = record d { default = edges }
put_edges names d edges Source = record d { source = edges }
put_edges names d edges Sink = record d { sink = edges }
put_edges names d edges (Cell name) = record d { cells = slice_set d.cells (name_number names name) (Some edges) }
