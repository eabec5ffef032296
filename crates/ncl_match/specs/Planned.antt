-- The plan of a pipeline: its cells that pass DATA on, bank by bank.
use Rattle.std.specs.Prelude.{◌≡◌, ℕ, zero, suc, List, [], ◌∷◌, ◌++◌, Bool, Option, Some, None, length, map, slice_get}
use Rattle.ncl_shape.specs.declared.rails.Rails.{Rails}
use Rattle.ncl_shape.specs.declared.stage.StageCell.{StageCell}
use Rattle.ncl_shape.specs.Stage.{StageData}
use Rattle.ncl_shape.specs.Pipeline.{PipelineData}
use Rattle.ncl_match.specs.declared.planning.DataCell.{DataCell}
use Rattle.ncl_match.specs.Plan.{AreMarks}
use Rattle.ncl_match.specs.Turns.{gathered}

-- a register cell, which passes on from its A net
abbrev pub register_cell : ℕ → ℕ → DataCell
register_cell from to = record { kind = None; ins = record { items = record { 0 = from } ∷ [] }; out = record { 0 = to } }

-- a gate cell of a stage
abbrev pub gate_cell : StageCell → DataCell
gate_cell g = record { kind = Some g.kind; ins = g.ins; out = g.out }

-- the register cells of a bank, from the rails that it reads and those that it drives: bit by bit, rail 0 first
abbrev pub register_cells : List Rails → List Rails → List DataCell
register_cells [] bits = []
register_cells (x ∷ before) [] = []
register_cells (x ∷ before) (y ∷ bits) = register_cell x.zero.0 y.zero.0 ∷ register_cell x.one.0 y.one.0 ∷ register_cells before bits

-- the rails that a bank reads: the inputs of the pipeline, or the outputs of the stage before it
abbrev pub outputs_at : Option StageData → List Rails
outputs_at None = []
outputs_at (Some s) = s.outputs

abbrev pub before_at : PipelineData → ℕ → List Rails
before_at p zero = p.inputs
before_at p (suc k) = outputs_at (slice_get p.stages k)

-- the register cells of a bank, and the gate cells of the stage after it
abbrev pub bank_cells : List Rails → Option StageData → List DataCell
bank_cells before None = []
bank_cells before (Some s) = register_cells before s.inputs ++ map gate_cell s.cells

abbrev pub plan_turn : PipelineData → ℕ → List DataCell
plan_turn p k = bank_cells (before_at p k) (slice_get p.stages k)

-- all of them, and the register cells of the last bank
abbrev pub plan_of : PipelineData → List DataCell
plan_of p = gathered (plan_turn p) (length p.stages) ++ register_cells (before_at p (length p.stages)) p.outputs

-- the marks of the nets from which rail 1 of an output is reached
pub record AreMarksFor (p : PipelineData) (output : ℕ) (marks : List Bool) : Type 0 where
  pub rails : Rails
  pub at : slice_get p.outputs output ≡ Some rails
  pub are : AreMarks (plan_of p) (length p.netlist.nets) rails.one.0 marks 0
