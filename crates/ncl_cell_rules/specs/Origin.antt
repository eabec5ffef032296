-- Where nets come from: paths of gate cells back to ports, register cells and acknowledge cells.
use Rattle.std.specs.Prelude.{◌≡◌, ℕ, true, false, Contains, Some, slice_get}
use Rattle.ncl_gates.specs.declared.kind.Kind.{Kind}
use Rattle.ncl_gates.specs.declared.kind.Kind.TheVariants.{Th22, Th33, Th44}
use Rattle.ncl_gates.specs.declared.cell_kind.CellKind.TheVariants.{Gate, Ack}
use Rattle.ncl_gates.specs.Cell.{is_register, is_data_register}
use Rattle.ncl_netlist.specs.declared.port.Port.{Port}
use Rattle.ncl_netlist.specs.declared.cell.Cell.{Cell}
use Rattle.ncl_netlist.specs.Netlist.{NetlistData}

-- a cell of the netlist
abbrev pub IsCell : NetlistData → Cell → Type 0
IsCell n c = Contains n.cells c

-- the cell at a place in the file
abbrev pub CellAt : NetlistData → ℕ → Cell → Type 0
CellAt n k c = slice_get n.cells k ≡ Some c

-- the sorts of cells: a gate cell, a register cell of either kind, one that is reset to 1, and an acknowledge cell
abbrev pub IsGate : Cell → Type 0
IsGate c = (kind : Kind) × (c.kind ≡ Gate kind)

abbrev pub IsRegister : Cell → Type 0
IsRegister c = is_register c.kind ≡ true

abbrev pub IsDataRegister : Cell → Type 0
IsDataRegister c = is_data_register c.kind ≡ true

abbrev pub IsAck : Cell → Type 0
IsAck c = c.kind ≡ Ack

-- the net is on an input pin of the cell
abbrev pub ReadsNet : Cell → ℕ → Type 0
ReadsNet c net = Contains c.ins.items (record { 0 = net })

-- the net is on this input pin of the cell: A is 0, B is 1, and RST of a register cell is 2
abbrev pub OnPin : Cell → ℕ → ℕ → Type 0
OnPin c pin net = slice_get c.ins.items pin ≡ Some (record { 0 = net })

-- the pins of a register or acknowledge cell
abbrev pub A : ℕ
A = 0

abbrev pub B : ℕ
B = 1

abbrev pub RST : ℕ
RST = 2

-- ports are the first nets, so a port and its net have one number
abbrev pub IsInputPort : NetlistData → ℕ → Type 0
IsInputPort n net = (p : Port) × (slice_get n.ports net ≡ Some p) × (p.output ≡ false)

abbrev pub IsOutputPort : NetlistData → ℕ → Type 0
IsOutputPort n net = (p : Port) × (slice_get n.ports net ≡ Some p) × (p.output ≡ true)

-- a register cell is of the bank that is named by its request, the net on its pin B: cells with one request are a bank
abbrev pub IsOfBank : NetlistData → ℕ → Cell → Type 0
IsOfBank n request c = IsCell n c × IsRegister c × OnPin c B request

-- a DATA bank: one that is reset to DATA, since some cell of it is reset to 1
abbrev pub IsDataBank : NetlistData → ℕ → Type 0
IsDataBank n request = (c : Cell) × IsOfBank n request c × IsDataRegister c

-- an acknowledge cell is of the bank of the register cell that drives its pin A
abbrev pub AcksBank : NetlistData → ℕ → Cell → Type 0
AcksBank n request c = IsCell n c × IsAck c × ((r : Cell) × IsOfBank n request r × OnPin c A r.out.0)

-- where a net may come from: an input port, a rail of a bank, or an acknowledge cell of a bank
pub data Origin : Type 0 where
  FromPort : Origin
  RailOf : ℕ → Origin
  AckOf : ℕ → Origin

-- the net can be followed back, by gate cells alone, to this origin
pub data ComesFrom (n : NetlistData) : ℕ → Origin → Type 0 where
  port : {net : ℕ} → IsInputPort n net → ComesFrom n net FromPort
  rail : {request : ℕ} → (c : Cell) → IsOfBank n request c → ComesFrom n c.out.0 (RailOf request)
  ack : {request : ℕ} → (c : Cell) → AcksBank n request c → ComesFrom n c.out.0 (AckOf request)
  gate : {net : ℕ} {origin : Origin} → (c : Cell) → IsCell n c → IsGate c → ReadsNet c net → ComesFrom n net origin → ComesFrom n c.out.0 origin

-- the origin of the net has this member and no other
pub record HasOnlyOrigin (n : NetlistData) (net : ℕ) (origin : Origin) : Type 0 where
  pub comes : ComesFrom n net origin
  pub only : (other : Origin) → ComesFrom n net other → other ≡ origin

-- two nets have one set of origins
pub record HaveSameOrigins (n : NetlistData) (x y : ℕ) : Type 0 where
  pub to : (origin : Origin) → ComesFrom n x origin → ComesFrom n y origin
  pub from : (origin : Origin) → ComesFrom n y origin → ComesFrom n x origin

-- a path of one gate cell or more, each driving an input of the next, leads from a net to another
pub data LeadsTo (n : NetlistData) : ℕ → ℕ → Type 0 where
  one : {net : ℕ} → (c : Cell) → IsCell n c → IsGate c → ReadsNet c net → LeadsTo n net c.out.0
  more : {net end : ℕ} → (c : Cell) → IsCell n c → IsGate c → ReadsNet c net → LeadsTo n c.out.0 end → LeadsTo n net end

-- the gates of a completion tree
pub data IsTreeKind : Kind → Type 0 where
  th22 : IsTreeKind Th22
  th33 : IsTreeKind Th33
  th44 : IsTreeKind Th44
