-- Forms: gates over the rails of a few inputs, judged by what they are at words.
use Rattle.std.specs.Prelude.{◌≡◌, ℕ, ◌+◌, ◌<◌, ◌≤◌, ◌==◌, List, [], ◌∷◌, ◌++◌, Bool, true, false, not, ◌&&◌, length, map, All}
use Rattle.std.specs.List.{slice_index_or}
use Rattle.ncl_gates.specs.Gate.{arity_of, set_of}
use Rattle.ncl_netlist.specs.declared.ids.NetId.{NetId}
use Rattle.ncl_shape.specs.declared.rails.Rails.{Rails}
use Rattle.ncl_shape.specs.declared.stage.StageCell.{StageCell}
use Rattle.ncl_template.specs.PairGates.{AddsGate}
use Rattle.ncl_template.specs.declared.form.FormPin.{FormPin}
use Rattle.ncl_template.specs.declared.form.FormPin.TheVariants.{Zero, One, Inner}
use Rattle.ncl_template.specs.declared.form.FormGate.{FormGate}
use Rattle.ncl_template.specs.declared.form.Form.{Form}

-- the bit on a pin where the inputs show a word, but the one at a place is NULL, and the inner gates have these bits. That
-- none is NULL is told by a place where no input is
abbrev pub pin_bit : List Bool → ℕ → List Bool → FormPin → Bool
pin_bit word null inner (Zero place) = not (place == null) && not (slice_index_or word place false)
pin_bit word null inner (One place) = not (place == null) && slice_index_or word place false
pin_bit word null inner (Inner place) = slice_index_or inner place false

-- whether a gate is set there
abbrev pub gate_bit : List Bool → ℕ → List Bool → FormGate → Bool
gate_bit word null inner gate = set_of gate.kind (map (pin_bit word null inner) gate.pins.items)

-- the bits of the inner gates there, behind some of them, each of which may read those before it, and where the one at a
-- place is low. That none is low is told by a place where none is
abbrev pub inner_bits : List Bool → ℕ → ℕ → List Bool → List FormGate → List Bool
inner_bits word null low bits [] = bits
inner_bits word null low bits (gate ∷ gates) = inner_bits word null low (bits ++ (not (length bits == low) && gate_bit word null bits gate) ∷ []) gates

-- whether a gate behind these is set there
abbrev pub behind_bit : List Bool → ℕ → ℕ → List FormGate → FormGate → Bool
behind_bit word null low inner gate = gate_bit word null (inner_bits word null low [] inner) gate

-- a pin is on a rail of one of so many inputs, or on one of so many inner gates
abbrev pub IsFormPin : ℕ → ℕ → FormPin → Type 0
IsFormPin inputs inner (Zero place) = place < inputs
IsFormPin inputs inner (One place) = place < inputs
IsFormPin inputs inner (Inner place) = place < inner

-- a gate has such a pin for each of its inputs, which are at most four
pub record IsFormGate (inputs inner : ℕ) (gate : FormGate) : Type 0 where
  pub arity : length gate.pins.items ≡ arity_of gate.kind
  pub few : length gate.pins.items ≤ 4
  pub pins : All (IsFormPin inputs inner) gate.pins.items

-- inner gates behind so many, each over the inputs and those before it
abbrev pub AreInner : ℕ → ℕ → List FormGate → Type 0
AreInner inputs before [] = Unit {0}
AreInner inputs before (gate ∷ gates) = IsFormGate inputs before gate × AreInner inputs (before + 1) gates

-- at most three inner gates, and a gate behind them
pub record IsBehind (inputs : ℕ) (inner : List FormGate) (gate : FormGate) : Type 0 where
  pub few : length inner ≤ 3
  pub are : AreInner inputs 0 inner
  pub fit : IsFormGate inputs (length inner) gate

-- at a word a gate has this bit; where an input that is waited for is NULL it is not set, and where an inner gate is
-- high but its net still low it is not set either
pub record FitsAt (bit : Bool) (waits : List Bool → ℕ → Bool) (inner : List FormGate) (gate : FormGate) (word : List Bool) : Type 0 where
  pub exact : behind_bit word (length word) (length inner) inner gate ≡ bit
  pub waiting : (null : ℕ) → null < length word → waits word null ≡ true → behind_bit word null (length inner) inner gate ≡ false
  pub observing : (low : ℕ) → low < length inner → slice_index_or (inner_bits word (length word) (length inner) [] inner) low false ≡ true → behind_bit word (length word) low inner gate ≡ false

-- the gates of a form are gates over two to four inputs; over two there is no inner gate
pub record IsForm (inputs : ℕ) (form : Form) : Type 0 where
  pub some : 2 ≤ inputs
  pub few : inputs ≤ 4
  pub flat : inputs ≡ 2 → length form.inner.items ≡ 0
  pub zero : IsBehind inputs form.inner.items form.zero
  pub one : IsBehind inputs form.inner.items form.one

-- at a word its rails show the bit of a function, and wait
abbrev pub FitsWord : (List Bool → Bool) → (List Bool → ℕ → Bool) → Form → List Bool → Type 0
FitsWord function waits form word =
    FitsAt (not (function word)) waits form.inner.items form.zero word × FitsAt (function word) waits form.inner.items form.one word

-- the gates of a form show a function of so many inputs, and wait for some of these
pub record Fits (function : List Bool → Bool) (inputs : ℕ) (waits : List Bool → ℕ → Bool) (form : Form) : Type 0 where
  pub is : IsForm inputs form
  pub at : (word : List Bool) → length word ≡ inputs → FitsWord function waits form word

-- the net on a pin, over the pairs of the inputs and the nets of the inner gates
abbrev pub no_net : NetId
no_net = record { 0 = 0 }

abbrev pub no_pair : Rails
no_pair = record { zero = no_net; one = no_net }

abbrev pub pin_net : List Rails → List NetId → FormPin → NetId
pin_net ins inner (Zero place) = (slice_index_or ins place no_pair).zero
pin_net ins inner (One place) = (slice_index_or ins place no_pair).one
pin_net ins inner (Inner place) = slice_index_or inner place no_net

-- a cell is a gate of a form over these pairs and these nets
pub record IsGateOf (ins : List Rails) (inner : List NetId) (gate : FormGate) (c : StageCell) : Type 0 where
  pub kind : c.kind ≡ gate.kind
  pub ins_are : c.ins.items ≡ map (pin_net ins inner) gate.pins.items

-- inner gates are added behind those that drive some nets, and drive the others of these
pub data AddsInner (ins : List Rails) : List NetId → List FormGate → List StageCell → List StageCell → List NetId → Type 0 where
  none : (nets : List NetId) (cells : List StageCell) → AddsInner ins nets [] cells cells nets
  more : (nets : List NetId) (gate : FormGate) (gates : List FormGate) (before now after : List StageCell) (net : NetId) (all : List NetId) → AddsGate (IsGateOf ins nets gate) before now net → AddsInner ins (nets ++ net ∷ []) gates now after all → AddsInner ins nets (gate ∷ gates) before after all

-- the gates of a form are added over these pairs: the inner gates, and those of the rails
pub record AddsForm (ins : List Rails) (form : Form) (before after : List StageCell) (out : Rails) : Type 0 where
  pub now : List StageCell
  pub then : List StageCell
  pub nets : List NetId
  pub inner : AddsInner ins [] form.inner.items before now nets
  pub zero : AddsGate (IsGateOf ins nets form.zero) now then out.zero
  pub one : AddsGate (IsGateOf ins nets form.one) then after out.one
