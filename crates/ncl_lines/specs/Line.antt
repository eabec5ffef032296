-- Lines, and the names that stand in them.
use Rattle.std.specs.Prelude.{ℕ, List, [], ◌++◌, map, slice_index_or, codes}
use Rattle.ncl_netlist.specs.declared.cell.Cell.{Cell}
use Rattle.ncl_netlist.specs.Netlist.{NetlistData}

-- a text as a line, ended by a line feed
abbrev pub line : List ℕ → List ℕ
line text = text ++ codes "\n"

-- the line that tells want of memory
abbrev pub out_of_memory : List ℕ
out_of_memory = line (codes "out of memory")

-- the name of the cell of this number
abbrev pub cell_name : NetlistData → ℕ → List ℕ
cell_name n number = slice_index_or (map (λ (c : Cell). c.name) n.cells) number []

-- the name of the net of this number
abbrev pub net_name : NetlistData → ℕ → List ℕ
net_name n number = slice_index_or n.nets number []
