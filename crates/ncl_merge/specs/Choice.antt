-- What becomes of the cells of a pipeline's netlist where the cells of its stages have been folded, and the stages that are
-- made of these.
use Rattle.std.specs.Prelude.{◌≡◌, ◌<◌, ℕ, Contains, Bool, true, false, nat_eq, List, [], ◌∷◌, length, map, take, Option, None, Some}
use Rattle.std.specs.List.{find, list_any, flat_map, slice_index_or}
use Rattle.ncl_gates.specs.declared.cell_kind.CellKind.TheVariants.{Gate}
use Rattle.ncl_netlist.specs.declared.cell.Cell.{Cell}
use Rattle.ncl_netlist.specs.Netlist.{NetlistData}
use Rattle.ncl_netlist.specs.Parts.{netlist_of}
use Rattle.ncl_shape.specs.declared.stage.StageCell.{StageCell}
use Rattle.ncl_shape.specs.Stage.{StageData}
use Rattle.ncl_shape.specs.Pipeline.{PipelineData}
use Rattle.ncl_shape.specs.Renamed.{renamed_net, renamed_rails}
use Rattle.ncl_merge.specs.Thinned.{moved_pipeline}
use Rattle.ncl_merge.specs.Rebuilt.{kept, kept_parts, number_in}

-- the first of some cells that drives a net
abbrev pub cell_driving : ℕ → List StageCell → Option StageCell
cell_driving net cells = find (λ (g : StageCell). nat_eq g.out.0 net) cells

-- a net that some of the cells drive, or a cell of some stage
abbrev pub is_driven : ℕ → List StageCell → Bool
is_driven net cells = list_any (λ (g : StageCell). nat_eq g.out.0 net) cells

abbrev pub is_stage_net : ℕ → List StageData → Bool
is_stage_net net stages = list_any (λ (s : StageData). is_driven net s.cells) stages

-- a cell of a stage, told by its output net
abbrev pub is_stage_cell : PipelineData → Cell → Bool
is_stage_cell p c = is_stage_net c.out.0 p.stages

-- the cell with the gate of a stage cell, and the name and the net that it had
abbrev pub with_gate_of : Cell → StageCell → Cell
with_gate_of c g = record { kind = Gate g.kind; name = c.name; ins = g.ins; out = c.out }

-- a cell that drives what a cell of the lists drives gets its gate, any other cell of a stage goes, and all else stays
abbrev pub becomes : Option StageCell → Bool → Cell → Option Cell
becomes (Some g) staged c = Some (with_gate_of c g)
becomes None true c = None
becomes None false c = Some c

-- all cells of the lists
abbrev pub all_of : List (List StageCell) → List StageCell
all_of lists = flat_map (λ (cells : List StageCell). cells) lists

abbrev pub choice_of : PipelineData → List (List StageCell) → Cell → Option Cell
choice_of p lists c = becomes (cell_driving c.out.0 (all_of lists)) (is_stage_cell p c) c

-- the same by tables of nets: the cell of the lists that drives a net, and whether a cell of a stage does
abbrev pub choice_by : List (Option StageCell) → List Bool → Cell → Option Cell
choice_by gates staged c = becomes (slice_index_or gates c.out.0 None) (slice_index_or staged c.out.0 false) c

-- for each net the cell that drives it
abbrev pub HaveGates : List (Option StageCell) → List StageCell → Type 0
HaveGates gates cells = (net : ℕ) → net < length gates → slice_index_or gates net None ≡ cell_driving net cells

-- cells that drive one net are one cell
abbrev pub DriveOnce : List StageCell → Type 0
DriveOnce cells = (g h : StageCell) → Contains cells g → Contains cells h → g.out.0 ≡ h.out.0 → g ≡ h

-- the netlist of these cells
abbrev pub folded_netlist : PipelineData → List (List StageCell) → NetlistData
folded_netlist p lists = netlist_of (kept_parts p.netlist (choice_of p lists))

-- the number that a net of the pipeline has in it, and the place of a cell
abbrev pub net_there : PipelineData → List (List StageCell) → ℕ → ℕ
net_there p lists = number_in p.netlist (folded_netlist p lists)

abbrev pub place_there : PipelineData → List (List StageCell) → ℕ → ℕ
place_there p lists k = length (kept (choice_of p lists) (take k p.netlist.cells))

-- a cell of a stage and a stage of these cells, where nets and cells have these numbers
abbrev pub moved_gate : (ℕ → ℕ) → (ℕ → ℕ) → StageCell → StageCell
moved_gate to at g = record {
  cell = record { 0 = at g.cell.0 };
  kind = g.kind;
  ins = record { items = map (renamed_net to) g.ins.items };
  out = renamed_net to g.out;
}

abbrev pub moved_stage : (ℕ → ℕ) → (ℕ → ℕ) → StageData → List StageCell → StageData
moved_stage to at s cells = record {
  number = s.number;
  inputs = map (renamed_rails to) s.inputs;
  cells = map (moved_gate to at) cells;
  outputs = map (renamed_rails to) s.outputs;
}

abbrev pub moved_stages : (ℕ → ℕ) → (ℕ → ℕ) → List StageData → List (List StageCell) → List StageData
moved_stages to at [] lists = []
moved_stages to at (s ∷ stages) [] = []
moved_stages to at (s ∷ stages) (cells ∷ lists) = moved_stage to at s cells ∷ moved_stages to at stages lists

-- the pipeline of that netlist
abbrev pub folded_pipeline : PipelineData → List (List StageCell) → PipelineData
folded_pipeline p lists = moved_pipeline (folded_netlist p lists) (net_there p lists) (place_there p lists) p (moved_stages (net_there p lists) (place_there p lists) p.stages lists)
