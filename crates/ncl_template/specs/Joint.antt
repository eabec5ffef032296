-- Joint waiting: gates over four inputs, the last of which is shown by two gates over the others, so that together they
-- wait for these.
use Rattle.std.specs.Prelude.{◌≡◌, ℕ, ◌<◌, ◌==◌, List, [], Bool, true, false, if◌then◌else◌, length, map, take, Contains}
use Rattle.std.specs.List.{slice_index_or}
use Rattle.ncl_gates.specs.Gate.{set_of}
use Rattle.ncl_netlist.specs.declared.ids.NetId.{NetId}
use Rattle.ncl_shape.specs.declared.rails.Rails.{Rails}
use Rattle.ncl_shape.specs.declared.stage.StageCell.{StageCell}
use Rattle.ncl_template.specs.declared.form.FormPin.{FormPin}
use Rattle.ncl_template.specs.declared.form.FormPin.TheVariants.{Zero, One, Inner}
use Rattle.ncl_template.specs.declared.form.FormGate.{FormGate}
use Rattle.ncl_template.specs.declared.form.Form.{Form}
use Rattle.ncl_template.specs.Waits.{waits_at, no_inputs}
use Rattle.ncl_template.specs.Forms.{pin_bit, gate_bit, IsFormGate, Fits, no_pair, IsGateOf}

-- one of some cells drives a net, and is this gate over some pairs
pub record IsGateAmong (cells : List StageCell) (ins : List Rails) (net : NetId) (gate : FormGate) : Type 0 where
  pub cell : StageCell
  pub among : Contains cells cell
  pub drives : cell.out ≡ net
  pub is : IsGateOf ins [] gate cell
  pub fit : IsFormGate (length ins) 0 gate

-- the two gates of a pair
pub record IsPairAmong (cells : List StageCell) (ins : List Rails) (pair : Rails) (zero one : FormGate) : Type 0 where
  pub of_zero : IsGateAmong cells ins pair.zero zero
  pub of_one : IsGateAmong cells ins pair.one one

-- the bit on a pin where the first inputs show a word, but the one at a place is NULL, and the last input is shown by
-- two gates over these
abbrev pub joint_pin : FormGate → FormGate → List Bool → ℕ → FormPin → Bool
joint_pin zero one word null (Zero place) = if place == length word then gate_bit word null [] zero else pin_bit word null [] (Zero place)
joint_pin zero one word null (One place) = if place == length word then gate_bit word null [] one else pin_bit word null [] (One place)
joint_pin zero one word null (Inner place) = false

-- whether a gate is set there
abbrev pub joint_bit : FormGate → FormGate → List Bool → ℕ → FormGate → Bool
joint_bit zero one word null gate = set_of gate.kind (map (joint_pin zero one word null) gate.pins.items)

-- two gates over three inputs, and one over these and the last
pub record AreJoined (zero one gate : FormGate) : Type 0 where
  pub zero_fits : IsFormGate 3 0 zero
  pub one_fits : IsFormGate 3 0 one
  pub gate_fits : IsFormGate 4 0 gate

-- at a word of the first inputs a gate is not set where one of these is NULL that is waited for at any word
abbrev pub WaitsJointly : FormGate → FormGate → (ℕ → Bool) → FormGate → List Bool → Type 0
WaitsJointly zero one waits gate word = (null : ℕ) → null < length word → waits null ≡ true → joint_bit zero one word null gate ≡ false

-- the gates of a form show a function of four inputs, of which the last is shown by two of some cells over the others,
-- and together with these they wait for some of the others
pub record FitsJointly (cells : List StageCell) (function : List Bool → Bool) (ins : List Rails) (waits : ℕ → Bool) (form : Form) : Type 0 where
  pub fits : Fits function (length ins) (waits_at no_inputs) form
  pub four : length ins ≡ 4
  pub flat : length form.inner.items ≡ 0
  pub not_last : waits 3 ≡ false
  pub zero : FormGate
  pub one : FormGate
  pub last : IsPairAmong cells (take 3 ins) (slice_index_or ins 3 no_pair) zero one
  pub of_zero : (word : List Bool) → length word ≡ 3 → WaitsJointly zero one waits form.zero word
  pub of_one : (word : List Bool) → length word ≡ 3 → WaitsJointly zero one waits form.one word
