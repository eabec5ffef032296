-- What a netlist computes when nothing is waited for and nothing falls, the pipeline's function, and what comes of the
-- words that banks hold at reset.
use Rattle.std.specs.Prelude.{ℕ, Bool, false, ◌&&◌, nat_eq, List, [], ◌∷◌, map, length}
use Rattle.std.specs.List.{list_any}
use Rattle.ncl_gates.specs.declared.cell_kind.CellKind.{CellKind}
use Rattle.ncl_gates.specs.declared.cell_kind.CellKind.TheVariants.{Gate, Register, RegisterData, Ack}
use Rattle.ncl_gates.specs.Gate.{set_of}
use Rattle.ncl_netlist.specs.declared.ids.NetId.{NetId}
use Rattle.ncl_netlist.specs.declared.cell.Cell.{Cell}
use Rattle.ncl_netlist.specs.Netlist.{NetlistData}
use Rattle.ncl_cell_rules.specs.CellTests.{data_test}
use Rattle.ncl_shape.specs.declared.rails.Rails.{Rails}
use Rattle.ncl_shape.specs.Nets.{Nets, among, rounds}
use Rattle.ncl_shape.specs.Stage.{named_rails}
use Rattle.ncl_shape.specs.Pipeline.{PipelineData}

-- the values at the input pins of a cell
abbrev pub pin_values : Nets → List NetId → List Bool
pin_values v ins = map (λ (net : NetId). v net.0) ins

-- the output net of a cell
abbrev pub net_of : Cell → ℕ
net_of c = c.out.0

-- the value on pin A
abbrev pub first_pin : List Bool → Bool
first_pin [] = false
first_pin (a ∷ others) = a

-- a gate cell passes DATA on where its set function holds, a register cell where its A net is high, as
-- if every request were made; acknowledge cells pass nothing on
abbrev pub passes_on : CellKind → List Bool → Bool
passes_on (Gate kind) values = set_of kind values
passes_on Register values = first_pin values
passes_on RegisterData values = first_pin values
passes_on Ack values = false

abbrev pub passes : Nets → Cell → Bool
passes v c = passes_on c.kind (pin_values v c.ins.items)

-- the closure of some nets: they are high and all else is low, and then cells raise their outputs, in as
-- many rounds as there are cells
abbrev pub close : NetlistData → Nets → Nets
close n start = rounds net_of passes n.cells (length n.cells) start

-- the function of a pipeline: of each output rail 1, as a bit, in the closure of the rails that the word names
abbrev pub function_of : PipelineData → List Bool → List Bool
function_of p word = map (λ (r : Rails). close p.netlist (among (named_rails p.inputs word)) r.one.0) p.outputs

-- the nets that a bank holds high at reset: the outputs of its register cells that are reset to 1
abbrev pub held_nets : NetlistData → ℕ → Nets
held_nets n request net = list_any (λ (c : Cell). data_test request c && nat_eq c.out.0 net) n.cells

-- what the stages after a bank make of the word that it holds at reset: of each output rail 1, as a bit, in the closure
-- of the nets that are high in the bank
abbrev pub function_at : PipelineData → ℕ → List Bool
function_at p request = map (λ (r : Rails). close p.netlist (held_nets p.netlist request) r.one.0) p.outputs
