-- The states of the firing machine, and its reset.
use Rattle.std.specs.Prelude.{ℕ, Bool, false, not, ◌||◌, ◌&&◌, ◌==◌, nat_eq, List, [], length}
use Rattle.std.specs.List.{list_any}
use Rattle.ncl_gates.specs.declared.cell_kind.CellKind.{CellKind}
use Rattle.ncl_gates.specs.declared.cell_kind.CellKind.TheVariants.{Gate, Register, RegisterData, Ack}
use Rattle.ncl_gates.specs.Cell.{is_data_register}
use Rattle.ncl_gates.specs.Gate.{some_high}
use Rattle.ncl_netlist.specs.declared.cell.Cell.{Cell}
use Rattle.ncl_netlist.specs.Netlist.{NetlistData}
use Rattle.ncl_shape.specs.Nets.{Nets, rounds}
use Rattle.ncl_shape.specs.Pipeline.{PipelineData}
use Rattle.ncl_shape.specs.Closure.{pin_values, net_of}
use Rattle.ncl_machine.specs.declared.pair.Pair.{Pair}

-- the words offered, a value for each net, how many words the source has raised and lowered again,
-- whether it is lowering one now, and the pairs of rails that the sink has taken
pub record State : Type 0 where
  pub offered : List (List Bool)
  pub value : Nets
  pub done : ℕ
  pub falling : Bool
  pub delivered : List Pair

-- the outputs of the register cells that are reset to 1
abbrev pub data_nets : NetlistData → Nets
data_nets n net = list_any (λ (c : Cell). is_data_register c.kind && nat_eq c.out.0 net) n.cells

-- a cell joins a completion tree that asks for DATA at reset: an acknowledge cell does that reads no cell that is
-- reset to 1, since then its bank is reset to NULL, and a gate cell that reads a net of such a tree
abbrev pub joins_kind : CellKind → Bool → List Bool → Bool
joins_kind Ack held reads = not held
joins_kind (Gate kind) held reads = some_high reads
joins_kind Register held reads = false
joins_kind RegisterData held reads = false

abbrev pub joins_tree : Nets → Nets → Cell → Bool
joins_tree held trees c = joins_kind c.kind (some_high (pin_values held c.ins.items)) (pin_values trees c.ins.items)

-- no net
abbrev pub no_nets : Nets
no_nets net = false

-- the nets of the completion trees of all banks that are reset to NULL: the outputs of their acknowledge cells and
-- of their completion cells
abbrev pub tree_nets : NetlistData → Nets
tree_nets n = rounds net_of (joins_tree (data_nets n)) n.cells (length n.cells) no_nets

-- the nets that are high at reset: the sink asks for DATA, and so does every bank that is reset to NULL; the others
-- hold words, and ask for NULL
abbrev pub reset_nets : PipelineData → Nets
reset_nets p net = (net == p.ki) || (data_nets p.netlist net || tree_nets p.netlist net)

-- the state at reset with some words offered
abbrev pub reset : PipelineData → List (List Bool) → State
reset p offered = record { offered = offered; value = reset_nets p; done = 0; falling = false; delivered = [] }
