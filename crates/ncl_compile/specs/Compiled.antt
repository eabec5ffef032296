-- What it is for a netlist to be compiled from models.
use Rattle.std.specs.Prelude.{◌≡◌, ℕ, ◌*◌, ◌≤◌, List, [], Bool, false, IsTrue, All, Contains, length, map, codes, slice_index_or}
use Rattle.std.specs.List.{AllZip}
use Rattle.ncl_base.specs.declared.source.TheConstants.{MOST_BYTES}
use Rattle.ncl_blif.specs.declared.model.Model.{Model}
use Rattle.ncl_blif.specs.Meaning.{Gives, Computes, width_of}
use Rattle.ncl_gates.specs.Cell.{is_data_register}
use Rattle.ncl_netlist.specs.declared.cell.Cell.{Cell}
use Rattle.ncl_netlist.specs.Netlist.{NetlistData}
use Rattle.ncl_shape.specs.declared.rails.Rails.{Rails}
use Rattle.ncl_shape.specs.Stage.{StageData}
use Rattle.ncl_shape.specs.Pipeline.{PipelineData}
use Rattle.ncl_shape.specs.Closure.{function_of}
use Rattle.ncl_shape.specs.Shape.{Shape}
use Rattle.ncl_faults.specs.declared.variant.Variant.TheVariants.{Base}
use Rattle.ncl_faults.specs.Values.{val}
use Rattle.ncl_faults.specs.Faults.{IsSound}
use Rattle.ncl_writer.specs.Names.{is_plain}
use Rattle.ncl_writer.specs.Text.{text_of}
use Rattle.ncl_network.specs.Size.{compile_size, widths_of}
use Rattle.ncl_compile.specs.Ports.{ports_for, input_pairs, output_pairs, names_of_rails}

-- the stage has the bits of the model, and gives its answer at each word
pub record ComputesModel (model : Model) (s : StageData) : Type 0 where
  pub inputs : length s.inputs ≡ length model.inputs
  pub outputs : length s.outputs ≡ length model.outputs
  pub answers : (word answer : List Bool) → Gives model word answer → map (λ (r : Rails). val s word Base r.one.0) s.outputs ≡ answer

-- how many bits the words have that models give
abbrev pub answer_width : List Model → ℕ
answer_width models = slice_index_or (widths_of models) (length models) 0

-- the name of a net, and whether it is a word of the netlist language that is not reserved
abbrev pub net_named : NetlistData → ℕ → List ℕ
net_named n net = slice_index_or n.nets net []

abbrev pub IsPlain : List ℕ → Type 0
IsPlain name = IsTrue (is_plain name)

-- the netlist is a pipeline of sound stages, one for each model in order, that computes the function of the models
pub record Compiled (models : List Model) (n : NetlistData) : Type 0 where
  pub pipeline : PipelineData
  pub shape : Shape n pipeline
  pub stages : AllZip ComputesModel models pipeline.stages
  pub sound : All IsSound pipeline.stages
  pub function : (word answer : List Bool) → length word ≡ width_of models → Computes models word answer → function_of pipeline word ≡ answer
  -- no cell of it is reset to 1, so no bank holds a word at reset
  pub no_data : All (λ (cell : Cell). is_data_register cell.kind ≡ false) n.cells
  -- its name, its ports, and what these are for
  pub title : n.name ≡ codes "top"
  pub ports : n.ports ≡ ports_for (width_of models) (answer_width models)
  pub inputs : map (names_of_rails n) pipeline.inputs ≡ input_pairs (width_of models)
  pub outputs : map (names_of_rails n) pipeline.outputs ≡ output_pairs (answer_width models)
  pub ki : net_named n pipeline.ki ≡ codes "ki"
  pub ko : net_named n pipeline.ko ≡ codes "ko"
  -- its names are plain words, and no cell has the name of a net
  pub plain_module : IsPlain n.name
  pub plain_nets : All IsPlain n.nets
  pub plain_cells : All (λ (cell : Cell). IsPlain cell.name) n.cells
  pub apart : (cell : Cell) → Contains n.cells cell → Contains n.nets cell.name → ⊥
  -- it is small
  pub few_cells : length n.cells ≤ 8 * compile_size models
  pub short : length (text_of n) ≤ MOST_BYTES
