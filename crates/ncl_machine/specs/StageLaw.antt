-- The theorem of one stage: what holds of each of its states at work where the stage is sound.
use Rattle.std.specs.Prelude.{◌≡◌, ◌≢◌, ℕ, true, false, Bool, List, Contains, All}
use Rattle.ncl_shape.specs.declared.stage.StageCell.{StageCell}
use Rattle.ncl_shape.specs.Nets.{Nets, with_net}
use Rattle.ncl_shape.specs.Stage.{StageData, named_rails, rail_nets}
use Rattle.ncl_faults.specs.declared.variant.Variant.TheVariants.{Base}
use Rattle.ncl_faults.specs.Values.{val}
use Rattle.ncl_faults.specs.Faults.{all_data, is_illegal}
use Rattle.ncl_machine.specs.Steps.{is_null}
use Rattle.ncl_machine.specs.AtWork.{next_of_gate, IsExcited}

-- no gate cell is disturbed: a cell that is excited stays excited where one of the nets takes the value, and
-- where another excited cell fires
pub record IsUndisturbed (s : StageData) (nets : List ℕ) (value : Bool) (v : Nets) : Type 0 where
  pub by_rails : (c : StageCell) (net : ℕ) → Contains s.cells c → Contains nets net → IsExcited v c → IsExcited (with_net v net value) c
  pub by_cells : (c other : StageCell) → Contains s.cells c → Contains s.cells other → c ≢ other → IsExcited v c → IsExcited v other → IsExcited (with_net v other.out.0 (next_of_gate v other)) c

-- no output is illegal
abbrev pub IsLegal : StageData → Nets → Type 0
IsLegal s v = All (λ r. is_illegal v r ≡ false) s.outputs

-- what holds of a rising state at a word: where every output has a high rail, each net has its value at the
-- word, so that the outputs show that the stage has settled; no cell is disturbed where rails of the word
-- rise; and no output is illegal
pub record IsRisingSafely (s : StageData) (word : List Bool) (v : Nets) : Type 0 where
  pub settled : all_data s v ≡ true → (net : ℕ) → v net ≡ val s word Base net
  pub undisturbed : IsUndisturbed s (named_rails s.inputs word) true v
  pub legal : IsLegal s v

-- what holds of a falling state: where all output rails are low, each net is low, so that the outputs show
-- that the stage is empty; no cell is disturbed where rails fall; and no output is illegal
pub record IsFallingSafely (s : StageData) (v : Nets) : Type 0 where
  pub empty : is_null s.outputs v ≡ true → (net : ℕ) → v net ≡ false
  pub undisturbed : IsUndisturbed s (rail_nets s.inputs) false v
  pub legal : IsLegal s v
