-- What it is for a netlist to be merged from another: the same circuit by fewer gates, in which nothing is left to fold.
use Rattle.std.specs.Prelude.{◌≡◌, ℕ, ◌<◌, ◌≤◌, ◌⊎◌, Bool, true, not, List, [], length, map, filter, All, Contains, slice_index_or}
use Rattle.std.specs.List.{AllZip}
use Rattle.ncl_netlist.specs.declared.cell.Cell.{Cell}
use Rattle.ncl_netlist.specs.declared.parts.NamePair.{NamePair}
use Rattle.ncl_netlist.specs.declared.parts.PartCell.{PartCell}
use Rattle.ncl_netlist.specs.Netlist.{NetlistData}
use Rattle.ncl_netlist.specs.Parts.{part_of}
use Rattle.ncl_shape.specs.declared.bank.Bank.{Bank}
use Rattle.ncl_shape.specs.declared.rails.Rails.{Rails}
use Rattle.ncl_shape.specs.declared.stage.StageCell.{StageCell}
use Rattle.ncl_shape.specs.Stage.{StageData}
use Rattle.ncl_shape.specs.Held.{is_data_bank, word_held}
use Rattle.ncl_shape.specs.Closure.{function_of, function_at}
use Rattle.ncl_shape.specs.Pipeline.{PipelineData}
use Rattle.ncl_shape.specs.Shape.{Shape}
use Rattle.ncl_faults.specs.Faults.{IsSound}
use Rattle.ncl_machine.specs.Composition.{stage_function}
use Rattle.ncl_writer.specs.Text.{text_of}
use Rattle.ncl_merge.specs.Fold.{IsFoldable}
use Rattle.ncl_merge.specs.Rebuilt.{name_at}
use Rattle.ncl_merge.specs.Choice.{is_stage_cell}

-- the netlist has the shape of a pipeline, and the stages of that are sound
pub record IsSoundNetlist (n : NetlistData) : Type 0 where
  pub pipeline : PipelineData
  pub shape : Shape n pipeline
  pub sound : All IsSound pipeline.stages

-- two cells of a stage of the pipeline are foldable
pub record HasFoldable (p : PipelineData) : Type 0 where
  pub stage : StageData
  pub in_stages : Contains p.stages stage
  pub g : StageCell
  pub h : StageCell
  pub foldable : IsFoldable p.netlist stage g h

-- the register, acknowledge and completion cells, with the names of their nets, in the order of the file
abbrev pub standing : PipelineData → List PartCell
standing p = map (part_of p.netlist.nets) (filter (λ c. not (is_stage_cell p c)) p.netlist.cells)

-- the name of the cell at a place, and the names of two rails
abbrev pub cell_name : NetlistData → ℕ → List ℕ
cell_name n place = slice_index_or (map (λ (c : Cell). c.name) n.cells) place []

abbrev pub rail_names : NetlistData → Rails → NamePair
rail_names n r = record { zero = name_at n r.zero.0; one = name_at n r.one.0 }

-- a stage cell of m is called as one of n and drives the net that it drove
pub record HasLabelOf (n m : NetlistData) (old g : StageCell) : Type 0 where
  pub name : cell_name m g.cell.0 ≡ cell_name n old.cell.0
  pub net : name_at m g.out.0 ≡ name_at n old.out.0

-- the stage of m has cells of that of n, by their names and output nets, as many inputs, and its function
pub record IsMergedStage (n m : NetlistData) (s t : StageData) : Type 0 where
  pub labels : (g : StageCell) → Contains t.cells g → (old : StageCell) × Contains s.cells old × HasLabelOf n m old g
  pub inputs : length t.inputs ≡ length s.inputs
  pub function : (word : List Bool) → stage_function t word ≡ stage_function s word

-- the bank holds the same word at reset, and the stages after it make the same of it
pub record IsMergedBank (p q : PipelineData) (b d : Bank) : Type 0 where
  pub held : word_held d ≡ word_held b
  pub passes : is_data_bank b ≡ true → function_at q d.request.0 ≡ function_at p b.request.0

-- what the pipeline q has of p, as a circuit and as a text
pub record Keeps (p q : PipelineData) : Type 0 where
  pub title : q.netlist.name ≡ p.netlist.name
  pub ports : q.netlist.ports ≡ p.netlist.ports
  pub standing : standing q ≡ standing p
  pub stages : AllZip (IsMergedStage p.netlist q.netlist) p.stages q.stages
  pub banks : AllZip (IsMergedBank p q) p.banks q.banks
  -- what the ports are for, by their names
  pub inputs : map (rail_names q.netlist) q.inputs ≡ map (rail_names p.netlist) p.inputs
  pub outputs : map (rail_names q.netlist) q.outputs ≡ map (rail_names p.netlist) p.outputs
  pub ki : name_at q.netlist q.ki ≡ name_at p.netlist p.ki
  pub ko : name_at q.netlist q.ko ≡ name_at p.netlist p.ko
  -- no name is new
  pub net_names : All (Contains p.netlist.nets) q.netlist.nets
  pub cell_names : All (λ (c : Cell). Contains (map (λ (d : Cell). d.name) p.netlist.cells) c.name) q.netlist.cells
  pub function : (word : List Bool) → length word ≡ length p.inputs → function_of q word ≡ function_of p word
  pub sound : All IsSound q.stages
  pub short : length (text_of q.netlist) ≤ length (text_of p.netlist)

-- m is n with some gates folded into others: it has a shape, what n has otherwise, and sound stages, no two of its cells are
-- foldable, and it has no more cells, and fewer where two of n's were foldable
pub record Merged (n m : NetlistData) : Type 0 where
  pub before : PipelineData
  pub after : PipelineData
  pub shape_before : Shape n before
  pub shape : Shape m after
  pub keeps : Keeps before after
  pub none : HasFoldable after → ⊥
  pub few : length m.cells ≤ length n.cells
  pub fewer : HasFoldable before → length m.cells < length n.cells

-- m is n with fewer gates, of which some may be foldable still
pub record IsSmaller (n m : NetlistData) : Type 0 where
  pub before : PipelineData
  pub after : PipelineData
  pub shape_before : Shape n before
  pub shape : Shape m after
  pub keeps : Keeps before after
  pub fewer : length m.cells < length n.cells

-- nothing is foldable in the netlist, whatever the order of the cells of its stages
abbrev pub NothingFoldable : NetlistData → Type 0
NothingFoldable n = (p : PipelineData) → Shape n p → HasFoldable p → ⊥

-- m is n itself, or n with fewer gates
abbrev pub IsOnTheWay : NetlistData → NetlistData → Type 0
IsOnTheWay n m = (m ≡ n) ⊎ IsSmaller n m
