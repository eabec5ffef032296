-- The chain of banks: the inner rules of the sixth rule of shape.
use Rattle.std.specs.Prelude.{◌≡◌, ℕ, ◌+◌, ◌<◌, ◌⊎◌, List, [], ◌∷◌, Contains, length, slice_get, Some}
use Rattle.ncl_gates.specs.Cell.{pins_of}
use Rattle.ncl_netlist.specs.declared.cell.Cell.{Cell}
use Rattle.ncl_netlist.specs.Netlist.{NetlistData}
use Rattle.ncl_cell_rules.specs.Origin.{IsCell, IsGate, IsRegister, OnPin, A, IsInputPort, IsOutputPort, IsOfBank, IsDataBank, RailOf, AckOf, ComesFrom, HasOnlyOrigin}
use Rattle.ncl_cell_rules.specs.Rules.{IsRequest}

-- a bank, named by its request
abbrev pub IsBank : NetlistData → ℕ → Type 0
IsBank n bank = IsRequest n bank

-- the net is on A of a register cell of the bank
abbrev pub IsInputOf : NetlistData → ℕ → ℕ → Type 0
IsInputOf n bank net = (c : Cell) × IsOfBank n bank c × OnPin c A net

-- the bank reads the pipeline's inputs: its A nets are input ports
pub record IsFirstBank (n : NetlistData) (bank : ℕ) : Type 0 where
  pub is_bank : IsBank n bank
  pub inputs : (net : ℕ) → IsInputOf n bank net → IsInputPort n net

-- the bank's request is an input port
pub record IsLastBank (n : NetlistData) (bank : ℕ) : Type 0 where
  pub is_bank : IsBank n bank
  pub request : IsInputPort n bank

-- the A nets of `next` come from the rails of `bank`
abbrev pub Follows : NetlistData → ℕ → ℕ → Type 0
Follows n bank next = (net : ℕ) × IsInputOf n next net × ComesFrom n net (RailOf bank)

-- there is exactly one
pub record HasOne (P : ℕ → Type 0) : Type 0 where
  pub one : ℕ
  pub is : P one
  pub only : (other : ℕ) → P other → other ≡ one

-- each bank of the list follows the one before
pub data IsPath (n : NetlistData) : List ℕ → Type 0 where
  end : {bank : ℕ} → IsPath n (bank ∷ [])
  next : {bank following : ℕ} {banks : List ℕ} → Follows n bank following → IsPath n (following ∷ banks) → IsPath n (bank ∷ following ∷ banks)

-- the banks in the order of the pipeline: from the first bank, going each time to the bank that
-- follows, every bank is met
pub record IsChain (n : NetlistData) (banks : List ℕ) : Type 0 where
  pub first : (bank : ℕ) → slice_get banks 0 ≡ Some bank → IsFirstBank n bank
  pub path : IsPath n banks
  pub every : (bank : ℕ) → IsBank n bank → Contains banks bank

-- the net by which a bank acknowledges: of the nets of its acknowledge and completion cells, one that
-- is a request or an output port
pub record IsRoot (n : NetlistData) (bank net : ℕ) : Type 0 where
  pub acks : ComesFrom n net (AckOf bank)
  pub used : IsRequest n net ⊎ IsOutputPort n net

-- there is a register cell
abbrev pub HasRegister : NetlistData → Type 0
HasRegister n = (c : Cell) × IsCell n c × IsRegister c

-- exactly one bank reads input ports, and exactly one bank's request is an input port
pub record HasEnds (n : NetlistData) : Type 0 where
  pub first : HasOne (IsFirstBank n)
  pub last : HasOne (IsLastBank n)

-- no two banks follow one bank
abbrev pub IsUnforked : NetlistData → Type 0
IsUnforked n = (bank x y : ℕ) → Follows n bank x → Follows n bank y → x ≡ y

-- the banks form a chain
abbrev pub HasChain : NetlistData → Type 0
HasChain n = (banks : List ℕ) × IsChain n banks

-- each bank but the last has the acknowledge of the next bank as its request, and the last
-- bank's request is an input port
pub record IsAcknowledged (n : NetlistData) (banks : List ℕ) : Type 0 where
  pub by_next : (k bank next : ℕ) → slice_get banks k ≡ Some bank → slice_get banks (k + 1) ≡ Some next → HasOnlyOrigin n bank (AckOf next)
  pub by_port : (k bank : ℕ) → k + 1 ≡ length banks → slice_get banks k ≡ Some bank → IsInputPort n bank

-- each bank has exactly one root, and the root of the first bank is an output port
pub record HasRoots (n : NetlistData) (banks : List ℕ) : Type 0 where
  pub one_each : (bank : ℕ) → Contains banks bank → HasOne (IsRoot n bank)
  pub first : (bank root : ℕ) → slice_get banks 0 ≡ Some bank → IsRoot n bank root → IsOutputPort n root

-- the nets that the pipeline shows outside: the outputs of the last bank and the root of the first
abbrev pub IsShown : NetlistData → ℕ → ℕ → ℕ → Type 0
IsShown n first last net = ((c : Cell) × IsOfBank n last c × (c.out.0 ≡ net)) ⊎ IsRoot n first net

-- these are exactly the output ports, and no gate cell reads the last bank's rails
pub record IsClosed (n : NetlistData) (first last : ℕ) : Type 0 where
  pub shown : (net : ℕ) → IsShown n first last net → IsOutputPort n net
  pub ports : (net : ℕ) → IsOutputPort n net → IsShown n first last net
  pub no_gate : (c : Cell) → IsCell n c → IsGate c → ComesFrom n c.out.0 (RailOf last) → ⊥

-- the net is on the pin of this name of the cell
abbrev pub OnPinNamed : Cell → List ℕ → ℕ → Type 0
OnPinNamed c name net = (pin : ℕ) × (slice_get (pins_of c.kind) pin ≡ Some name) × OnPin c pin net

-- an input port has one role: the pins that read it have one name, and at most one of them
-- is an A pin
pub record HasOneRole (n : NetlistData) (net : ℕ) : Type 0 where
  pub one_name : (c d : Cell) (x y : List ℕ) → IsCell n c → IsCell n d → OnPinNamed c x net → OnPinNamed d y net → x ≡ y
  pub one_rail : (c d : Cell) → IsCell n c → IsCell n d → OnPin c A net → OnPin d A net → c ≡ d

-- no bank that is reset to DATA is followed by one, since between two words there has to be a NULL
abbrev pub IsDataApart : NetlistData → Type 0
IsDataApart n = (bank next : ℕ) → Follows n bank next → IsDataBank n bank → IsDataBank n next → ⊥

-- the first and the last bank of a chain
abbrev pub IsHead : List ℕ → ℕ → Type 0
IsHead banks bank = slice_get banks 0 ≡ Some bank

abbrev pub IsEnd : List ℕ → ℕ → Type 0
IsEnd banks bank = (k : ℕ) × (k + 1 ≡ length banks) × (slice_get banks k ≡ Some bank)

-- the inner rules of the chain, in the order in which they are asked
pub data InnerRule : Type 0 where
  SomeRegister : InnerRule
  TwoEnds : InnerRule
  NoFork : InnerRule
  OneChain : InnerRule
  ChainedRequests : InnerRule
  OneRootEach : InnerRule
  ShownOutputs : InnerRule
  OneRoleEach : InnerRule
  WordsApart : InnerRule

-- their numbers, by which an answer tells them
abbrev pub inner_number : InnerRule → ℕ
inner_number SomeRegister = 1
inner_number TwoEnds = 2
inner_number NoFork = 3
inner_number OneChain = 4
inner_number ChainedRequests = 5
inner_number OneRootEach = 6
inner_number ShownOutputs = 7
inner_number OneRoleEach = 8
inner_number WordsApart = 9

-- what each asks. Three of them speak of the chain, which one before gives
abbrev pub InnerHolds : NetlistData → InnerRule → Type 0
InnerHolds n SomeRegister = HasRegister n
InnerHolds n TwoEnds = HasEnds n
InnerHolds n NoFork = IsUnforked n
InnerHolds n OneChain = HasChain n
InnerHolds n ChainedRequests = (banks : List ℕ) → IsChain n banks → IsAcknowledged n banks
InnerHolds n OneRootEach = (banks : List ℕ) → IsChain n banks → HasRoots n banks
InnerHolds n ShownOutputs = (banks : List ℕ) (first last : ℕ) → IsChain n banks → IsHead banks first → IsEnd banks last → IsClosed n first last
InnerHolds n OneRoleEach = (net : ℕ) → IsInputPort n net → HasOneRole n net
InnerHolds n WordsApart = IsDataApart n

-- the banks form a chain by all inner rules
abbrev pub IsChained : NetlistData → Type 0
IsChained n = (r : InnerRule) → InnerHolds n r

-- the first inner rule that fails, by its number
pub record BreaksInner (n : NetlistData) (number : ℕ) : Type 0 where
  pub rule : InnerRule
  pub is : inner_number rule ≡ number
  pub broken : InnerHolds n rule → ⊥
  pub before : (q : InnerRule) → inner_number q < number → InnerHolds n q
