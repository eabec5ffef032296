-- Models whose signals are numbers.
use Rattle.std.specs.Prelude.{◌≡◌, ℕ, ◌+◌, ◌<◌, ◌≤◌, List, [], ◌∷◌, ◌++◌, length, map, sum_by, All, Contains}
use Rattle.std.specs.List.{range_with_len, IsDistinct}
use Rattle.std.specs.Prelude.{nat_eq}
use Rattle.ncl_base.specs.declared.source.TheConstants.{MOST_BYTES}
use Rattle.ncl_blif.specs.declared.model.Lit.{Lit}
use Rattle.ncl_blif.specs.declared.model.Cover.{Cover}
use Rattle.ncl_blif.specs.declared.model.Model.{Model}

-- the signals that have a driver: the inputs, and what the covers drive
abbrev pub signals_of : Model → List ℕ
signals_of model = model.inputs ++ map (λ cover. cover.out) model.covers

-- a signal depends on another: a cover drives it and reads the other, or reads one that depends on the other
pub data Depends (model : Model) : ℕ → ℕ → Type 0 where
  reads : (cover : Cover) (signal : ℕ) → Contains model.covers cover → Contains cover.ins signal → Depends model cover.out signal
  through : (cover : Cover) (signal other : ℕ) → Contains model.covers cover → Contains cover.ins signal → Depends model signal other → Depends model cover.out other

-- the weight of rows: one for each, and their characters
abbrev pub weight_of_rows : List (List Lit) → ℕ
weight_of_rows rows = sum_by (λ row. 1 + length row) rows

-- how much of a model there is: its inputs, its outputs, its covers, the signals that these read, and the
-- weight of the rows
abbrev pub size_of_model : Model → ℕ
size_of_model model =
    length model.inputs + length model.outputs
    + sum_by (λ cover. 1 + length cover.ins + weight_of_rows cover.rows) model.covers

-- the most of all models of a file together
abbrev pub most_size : ℕ
most_size = MOST_BYTES

-- a model that a text can say
pub record IsModel (model : Model) : Type 0 where
  pub has_input : 0 < length model.inputs
  pub has_output : 0 < length model.outputs
  pub inputs_in_order : model.inputs ≡ range_with_len 0 (length model.inputs)
  pub one_driver : IsDistinct nat_eq (signals_of model)
  pub reads_driven : All (λ cover. All (λ signal. Contains (signals_of model) signal) cover.ins) model.covers
  pub outputs_driven : All (λ signal. Contains (signals_of model) signal) model.outputs
  pub no_cycle : (signal : ℕ) → Depends model signal signal → ⊥
  pub row_widths : All (λ cover. All (λ row. length row ≡ length cover.ins) cover.rows) model.covers
  pub small : size_of_model model ≤ most_size

-- the models can be joined: those that follow have an input for each output of the one in front of them
abbrev pub AreJoined : List Model → Type 0
AreJoined [] = Unit {0}
AreJoined (model ∷ []) = Unit {0}
AreJoined (model ∷ next ∷ models) = (length next.inputs ≡ length model.outputs) × AreJoined (next ∷ models)

-- models of which a text can consist
pub record AreModels (models : List Model) : Type 0 where
  pub some : 0 < length models
  pub each : All IsModel models
  pub joined : AreJoined models
  pub small : sum_by size_of_model models ≤ most_size
