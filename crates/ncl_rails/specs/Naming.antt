-- Cells that are told by names, and what they are where the names are numbered.
use Rattle.std.specs.Prelude.{◌≡◌, ℕ, ◌++◌, List, Contains, map, AllPairs, ◌≢◌}
use Rattle.std.specs.List.{AllZip}
use Rattle.ncl_gates.specs.declared.cell_kind.CellKind.TheVariants.{Gate}
use Rattle.ncl_netlist.specs.declared.ids.NetId.{NetId}
use Rattle.ncl_netlist.specs.declared.parts.NamePair.{NamePair}
use Rattle.ncl_netlist.specs.declared.parts.PartCell.{PartCell}
use Rattle.ncl_netlist.specs.Parts.{input_names, output_name}
use Rattle.ncl_shape.specs.declared.rails.Rails.{Rails}
use Rattle.ncl_shape.specs.declared.stage.StageCell.{StageCell}
use Rattle.ncl_shape.specs.Stage.{StageData}
use Rattle.ncl_tree.specs.NamePairs.{pair_names}

-- the names that the cells of a stage know: the rails of its inputs and what the cells drive
abbrev pub names_known : List NamePair → List PartCell → List (List ℕ)
names_known ins cells = pair_names ins ++ map output_name cells

-- a net by the number of its name
abbrev pub named_net : (List ℕ → ℕ) → List ℕ → NetId
named_net number name = record { 0 = number name }

-- a pair of names as rails
abbrev pub named_pair : (List ℕ → ℕ) → NamePair → Rails
named_pair number pair = record { zero = named_net number pair.zero; one = named_net number pair.one }

-- a gate cell that is told by names, and the same cell by numbers
pub record IsNumbered (number : List ℕ → ℕ) (part : PartCell) (cell : StageCell) : Type 0 where
  pub kind : part.kind ≡ Gate cell.kind
  pub ins : cell.ins.items ≡ map (named_net number) (input_names part)
  pub out : cell.out ≡ named_net number (output_name part)

-- names that are known have different numbers
abbrev pub IsOneToOne : (List ℕ → ℕ) → List (List ℕ) → Type 0
IsOneToOne number names =
    (x y : List ℕ) → Contains names x → Contains names y → number x ≡ number y → x ≡ y

-- the stage that cells form between two banks, where the names have these numbers, and the cells any numbers of
-- their own
pub record IsNumberedStage (number : List ℕ → ℕ) (ins outs : List NamePair) (cells : List PartCell) (s : StageData) : Type 0 where
  pub one_to_one : IsOneToOne number (names_known ins cells)
  pub inputs : s.inputs ≡ map (named_pair number) ins
  pub outputs : s.outputs ≡ map (named_pair number) outs
  pub each : AllZip (IsNumbered number) cells s.cells
  pub cells_differ : AllPairs (λ (x y : StageCell). x.cell.0 ≢ y.cell.0) s.cells
