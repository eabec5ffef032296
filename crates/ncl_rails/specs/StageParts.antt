-- What the parts of a stage are that computes a network.
use Rattle.std.specs.Prelude.{◌≡◌, ◌≢◌, ℕ, ◌+◌, ◌*◌, ◌≤◌, List, ◌++◌, ◌∷◌, Bool, All, Contains, length, map}
use Rattle.ncl_base.specs.declared.word.TheConstants.{MOST_BITS}
use Rattle.ncl_gates.specs.declared.kind.Kind.{Kind}
use Rattle.ncl_gates.specs.declared.cell_kind.CellKind.TheVariants.{Gate}
use Rattle.ncl_netlist.specs.declared.parts.NamePair.{NamePair}
use Rattle.ncl_netlist.specs.declared.parts.PartCell.{PartCell}
use Rattle.ncl_netlist.specs.Names.{AllDiffer}
use Rattle.ncl_netlist.specs.Parts.{HasAllPins, input_names, output_name}
use Rattle.ncl_shape.specs.declared.rails.Rails.{Rails}
use Rattle.ncl_shape.specs.Stage.{StageData, IsStage}
use Rattle.ncl_faults.specs.declared.variant.Variant.TheVariants.{Base}
use Rattle.ncl_faults.specs.Values.{val}
use Rattle.ncl_faults.specs.Faults.{IsSound, IsWordOf}
use Rattle.ncl_network.specs.declared.network.Network.{Network}
use Rattle.ncl_network.specs.Network.{answer_of}
use Rattle.ncl_decomp.specs.Split.{IsSplit, cost_of_network}
use Rattle.ncl_tree.specs.PartNames.{IsPartName}
use Rattle.ncl_rails.specs.declared.parts.StageParts.{StageParts}
use Rattle.ncl_tree.specs.NamePairs.{pair_names, IsFreeOf}
use Rattle.ncl_rails.specs.Naming.{names_known, IsNumberedStage}

-- what is asked: a split network of 1 to 128 inputs and outputs, a pair of names for each input, all different, and
-- none that begins with the prefix
pub record CanBeStage (network : Network) (ins : List NamePair) (prefix : List ℕ) : Type 0 where
  pub split : IsSplit network
  pub some_inputs : 1 ≤ network.inputs
  pub few_inputs : network.inputs ≤ MOST_BITS
  pub some_outputs : 1 ≤ length network.outputs
  pub few_outputs : length network.outputs ≤ MOST_BITS
  pub as_many : length ins ≡ network.inputs
  pub differ : AllDiffer (pair_names ins)
  pub free : IsFreeOf prefix (pair_names ins)

-- each cell reads names of the inputs and what earlier cells drive
abbrev pub ReadsKnown : List NamePair → List PartCell → Type 0
ReadsKnown ins cells =
    (before after : List PartCell) (cell : PartCell) → cells ≡ before ++ cell ∷ after → All (Contains (names_known ins before)) (input_names cell)

-- the stage computes the network, at each word of its inputs
abbrev pub Answers : Network → StageData → Type 0
Answers network s =
    (word : List Bool) → IsWordOf s word → map (λ (r : Rails). val s word Base r.one.0) s.outputs ≡ answer_of network word

-- the parts of a stage that computes a network, between rails of these names
pub record AreStageParts (network : Network) (ins : List NamePair) (prefix : List ℕ) (parts : StageParts) : Type 0 where
  -- gate cells with a net at each pin, which read the inputs and what earlier cells drive
  pub gates : All (λ cell. (kind : Kind) × (cell.kind ≡ Gate kind)) parts.cells
  pub all_pins : All HasAllPins parts.cells
  pub reads_known : ReadsKnown ins parts.cells
  -- the outputs are pairs of names that are known
  pub as_many : length parts.outputs ≡ length network.outputs
  pub outputs_known : All (Contains (names_known ins parts.cells)) (pair_names parts.outputs)
  -- however the names are numbered, the cells are a sound stage that computes the network
  pub is_stage : (number : List ℕ → ℕ) (s : StageData) → IsNumberedStage number ins parts.outputs parts.cells s → IsStage s
  pub sound : (number : List ℕ → ℕ) (s : StageData) → IsNumberedStage number ins parts.outputs parts.cells s → IsSound s
  pub answers : (number : List ℕ → ℕ) (s : StageData) → IsNumberedStage number ins parts.outputs parts.cells s → Answers network s
  -- no more cells than the network costs, with two for each input and output
  pub few : length parts.cells ≤ cost_of_network network + 2 * network.inputs + 2 * length network.outputs
  -- names of cells and of the nets that they drive are made from the prefix, and all differ
  pub cell_names : All (λ cell. IsPartName prefix cell.name) parts.cells
  pub net_names : All (λ cell. IsPartName prefix (output_name cell)) parts.cells
  pub cells_differ : AllDiffer (map (λ cell. cell.name) parts.cells)
  pub nets_differ : AllDiffer (map output_name parts.cells)
  pub no_cell_is_net : (cell other : PartCell) → Contains parts.cells cell → Contains parts.cells other → cell.name ≢ output_name other
