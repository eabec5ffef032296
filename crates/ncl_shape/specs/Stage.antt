-- A stage: the gate cells between a bank and the next, as Smith and Di 2009 lay out an NCL pipeline.
use Rattle.std.specs.Prelude.{◌≡◌, ◌≢◌, ℕ, ◌≤◌, List, [], ◌∷◌, ◌++◌, Bool, true, false, length, All, AllPairs, Contains, map}
use Rattle.ncl_base.specs.declared.word.TheConstants.{MOST_BITS}
use Rattle.ncl_gates.specs.Gate.{arity_of}
use Rattle.ncl_shape.specs.declared.rails.Rails.{Rails}
use Rattle.ncl_shape.specs.declared.stage.StageCell.{StageCell}

-- a stage as a plain record
pub record StageData : Type 0 where
  pub number : ℕ
  pub inputs : List Rails
  pub cells : List StageCell
  pub outputs : List Rails

-- the nets of the rails of some bits, rail 0 before rail 1
abbrev pub rail_nets : List Rails → List ℕ
rail_nets [] = []
rail_nets (r ∷ rs) = r.zero.0 ∷ r.one.0 ∷ rail_nets rs

-- the rail of a bit that a value names
abbrev pub rail_of : Rails → Bool → ℕ
rail_of r true = r.one.0
rail_of r false = r.zero.0

-- the rails that a word names, one for each bit
abbrev pub named_rails : List Rails → List Bool → List ℕ
named_rails [] word = []
named_rails (r ∷ rs) [] = []
named_rails (r ∷ rs) (b ∷ word) = rail_of r b ∷ named_rails rs word

-- the output net of a gate cell
abbrev pub out_of : StageCell → ℕ
out_of cell = cell.out.0

-- the nets that are known where these cells have been evaluated: the rails of the inputs and the
-- outputs of the cells
abbrev pub nets_of : List Rails → List StageCell → List ℕ
nets_of inputs cells = rail_nets inputs ++ map out_of cells

-- each input of the cell is one of the nets
abbrev pub Reads : List ℕ → StageCell → Type 0
Reads nets cell = All (λ net. Contains nets net.0) cell.ins.items

-- each cell reads rails of the inputs and outputs of earlier cells alone
abbrev pub IsInOrder : List Rails → List StageCell → Type 0
IsInOrder inputs cells =
    (before after : List StageCell) (cell : StageCell) → cells ≡ before ++ cell ∷ after → Reads (nets_of inputs before) cell

-- what holds of each stage
pub record IsStage (s : StageData) : Type 0 where
  pub some_inputs : 1 ≤ length s.inputs
  pub few_inputs : length s.inputs ≤ MOST_BITS
  pub some_outputs : 1 ≤ length s.outputs
  pub few_outputs : length s.outputs ≤ MOST_BITS
  pub nets_differ : AllPairs (λ x y. x ≢ y) (nets_of s.inputs s.cells)
  pub cells_differ : AllPairs (λ (x y : StageCell). x.cell.0 ≢ y.cell.0) s.cells
  pub arities : All (λ (c : StageCell). length c.ins.items ≡ arity_of c.kind) s.cells
  pub in_order : IsInOrder s.inputs s.cells
  pub outputs_known : All (λ net. Contains (nets_of s.inputs s.cells) net) (rail_nets s.outputs)
