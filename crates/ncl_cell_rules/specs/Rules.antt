-- The rules that a cell or a port can break by itself: the first five rules of shape.
use Rattle.std.specs.Prelude.{◌≡◌, ◌≢◌, false, ◌&&◌, ℕ, ◌⊎◌, ◌<◌, ◌==◌, List, sum_by, count_by}
use Rattle.ncl_gates.specs.declared.kind.Kind.{Kind}
use Rattle.ncl_gates.specs.declared.cell_kind.CellKind.{CellKind}
use Rattle.ncl_gates.specs.declared.cell_kind.CellKind.TheVariants.{Gate, Register, RegisterData, Ack}
use Rattle.ncl_gates.specs.Cell.{is_data_register}
use Rattle.ncl_netlist.specs.declared.ids.NetId.{NetId}
use Rattle.ncl_netlist.specs.declared.cell.Cell.{Cell}
use Rattle.ncl_netlist.specs.Netlist.{NetlistData}
use Rattle.ncl_cell_rules.specs.Origin.{IsCell, CellAt, IsGate, IsRegister, IsAck, ReadsNet, OnPin, A, B, RST, IsInputPort, IsOutputPort, IsOfBank, AcksBank, IsDataRegister, IsDataBank, RailOf, AckOf, ComesFrom, HasOnlyOrigin, HaveSameOrigins, LeadsTo, IsTreeKind}

-- rule 1: some pin reads the input port
abbrev pub IsReadPort : NetlistData → ℕ → Type 0
IsReadPort n net = IsInputPort n net → (c : Cell) × IsCell n c × ReadsNet c net

-- rule 2: the gate cell lies on no cycle of gate cells
abbrev pub IsOffCycles : NetlistData → Cell → Type 0
IsOffCycles n c = IsGate c → LeadsTo n c.out.0 c.out.0 → ⊥

-- how many input pins of a cell have the net
abbrev pub pins_with : ℕ → List NetId → ℕ
pins_with net ins = count_by (λ (x : NetId). x.0 == net) ins

-- how many pins of acknowledge cells have the net
abbrev pub ack_pins_of : CellKind → ℕ → List NetId → ℕ
ack_pins_of Ack net ins = pins_with net ins
ack_pins_of Register net ins = 0
ack_pins_of RegisterData net ins = 0
ack_pins_of (Gate kind) net ins = 0

abbrev pub ack_pins : NetlistData → ℕ → ℕ
ack_pins n net = sum_by (λ (c : Cell). ack_pins_of c.kind net c.ins.items) n.cells

-- an acknowledge cell reads two register cells of one bank, which differ, and of which one at most is reset to 1
pub record ReadsOneBit (n : NetlistData) (c : Cell) : Type 0 where
  pub request : ℕ
  pub zero : Cell
  pub one : Cell
  pub zero_of : IsOfBank n request zero
  pub one_of : IsOfBank n request one
  pub on_a : OnPin c A zero.out.0
  pub on_b : OnPin c B one.out.0
  pub differ : zero.out.0 ≢ one.out.0
  pub few_data : (is_data_register zero.kind && is_data_register one.kind) ≡ false

-- rule 3: the output of a register cell is on exactly one pin of all acknowledge cells, and an
-- acknowledge cell reads one bit
pub record IsPaired (n : NetlistData) (c : Cell) : Type 0 where
  pub register : IsRegister c → ack_pins n c.out.0 ≡ 1
  pub ack : IsAck c → ReadsOneBit n c

-- the net is an input port, or it comes from one bank's rails, or from one bank's acknowledge cells
abbrev pub IsFromOneRail : NetlistData → ℕ → Type 0
IsFromOneRail n net = IsInputPort n net ⊎ ((request : ℕ) × HasOnlyOrigin n net (RailOf request))

abbrev pub IsFromOneAck : NetlistData → ℕ → Type 0
IsFromOneAck n net = IsInputPort n net ⊎ ((request : ℕ) × HasOnlyOrigin n net (AckOf request))

-- a gate cell reads one bank's rails, or it is a completion cell of one bank
abbrev pub IsGateOfOne : NetlistData → Kind → Cell → Type 0
IsGateOfOne n kind c = ((request : ℕ) × HasOnlyOrigin n c.out.0 (RailOf request)) ⊎ ((request : ℕ) × HasOnlyOrigin n c.out.0 (AckOf request) × IsTreeKind kind)

-- the first register cell of a bank in the file
pub record IsFirstOfBank (n : NetlistData) (request : ℕ) (c : Cell) : Type 0 where
  pub place : ℕ
  pub at : CellAt n place c
  pub of_bank : IsOfBank n request c
  pub first : (k : ℕ) (other : Cell) → k < place → CellAt n k other → IsOfBank n request other → ⊥

-- a register cell reads one rail, one acknowledge and a reset port, and its rail comes from where those
-- of its bank come from
pub record IsRegisterOfOne (n : NetlistData) (c : Cell) : Type 0 where
  pub reset : (net : ℕ) → OnPin c RST net → IsInputPort n net
  pub request : (net : ℕ) → OnPin c B net → IsFromOneAck n net
  pub rail : (net : ℕ) → OnPin c A net → IsFromOneRail n net
  pub bank : (request net first_net : ℕ) (first : Cell) → OnPin c B request → IsFirstOfBank n request first → OnPin c A net → OnPin first A first_net → HaveSameOrigins n net first_net

-- the cell reads the output of a register cell that is reset to 1
abbrev pub ReadsData : NetlistData → Cell → Type 0
ReadsData n c = (r : Cell) × IsCell n r × IsDataRegister r × ReadsNet c r.out.0

-- an acknowledge cell of a bank that is reset to DATA: so each bit of the bank has DATA
abbrev pub IsAckOfOne : NetlistData → Cell → Type 0
IsAckOfOne n c = (request : ℕ) → AcksBank n request c → IsDataBank n request → ReadsData n c

-- rule 4: what a cell reads has one origin, and a bank is reset to DATA in all its bits or in none
pub record IsUnmixed (n : NetlistData) (c : Cell) : Type 0 where
  pub gate : (kind : Kind) → c.kind ≡ Gate kind → IsGateOfOne n kind c
  pub register : IsRegister c → IsRegisterOfOne n c
  pub ack : IsAck c → IsAckOfOne n c

-- the net is a request: it is on B of some register cell
abbrev pub IsRequest : NetlistData → ℕ → Type 0
IsRequest n net = (c : Cell) × IsOfBank n net c

-- a gate cell reads the net
abbrev pub IsReadByGate : NetlistData → ℕ → Type 0
IsReadByGate n net = (c : Cell) × IsCell n c × IsGate c × ReadsNet c net

-- rule 5: the output of an acknowledge or completion cell is read by a gate cell, or is a request, or
-- is an output port
abbrev pub IsTied : NetlistData → Cell → Type 0
IsTied n c = (request : ℕ) → (IsAck c ⊎ IsGate c) → ComesFrom n c.out.0 (AckOf request) → IsReadByGate n c.out.0 ⊎ (IsRequest n c.out.0 ⊎ IsOutputPort n c.out.0)
