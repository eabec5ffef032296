-- What refusals tell.
use Rattle.ncl_check.proofs.Terms.{CellRule, IsNetFault, IsNetlist, IsNetlistText, IsRefusedText, IsShapeFault, IsShapeless, List, MOST_BYTES, NetFault, NetlistData, NoChain, Refusal, ShapeFault, TellsLine, TooLong, TooWide, length, net_line, refl, shape_line, shapeless, unbuilt, unread, ℕ, ◌≡◌, ◌≢◌, ◌≤◌}
use Rattle.ncl_reader.specs.declared.net_fault.NetFault.TheVariants as net
use Rattle.ncl_shape.specs.declared.fault.ShapeFault.TheVariants.{Memory}
use Rattle.ncl_check.specs.declared.text.Refusal.TheVariants as refusal

-- what tells one thing tells what follows from it
pub TellsLine-weaker : (kind other : List ℕ → Type 0) → ((text : List ℕ) → kind text → other text) → (r : Refusal) → TellsLine kind r → TellsLine other r
TellsLine-weaker kind other follows (refusal.Told text) h = follows text.items h
TellsLine-weaker kind other follows refusal.Memory h = tt

-- what tells one line tells it where something holds besides
pub TellsLine-with : {A : Type 0} → A → (line : List ℕ) → (r : Refusal) → TellsLine (λ text. text ≡ line) r → TellsLine (λ text. A × (text ≡ line)) r
TellsLine-with {A} holds line r h = TellsLine-weaker (λ text. text ≡ line) (λ text. A × (text ≡ line)) (λ text is. (holds, is)) r h

-- what tells why a netlist has no shape tells why its text is that of no pipeline
pub shapeless_told : (bytes : List ℕ) (n : NetlistData) → IsNetlistText bytes n → (r : Refusal) → TellsLine (IsShapeless n) r → TellsLine (IsRefusedText bytes) r
shapeless_told bytes n text r h = TellsLine-weaker (IsShapeless n) (IsRefusedText bytes) (shapeless n text) r h

-- the first rule of shape that a netlist breaks is told
pub shape_told : (n : NetlistData) → IsNetlist n → (fault : ShapeFault) → fault ≢ Memory → IsShapeFault n fault → IsShapeless n (shape_line n fault)
shape_told n is (CellRule fault) own broken = record { is_netlist = is; fault = CellRule fault; broken = broken; told = refl }
shape_told n is (NoChain rule) own broken = record { is_netlist = is; fault = NoChain rule; broken = broken; told = refl }
shape_told n is (TooWide number) own broken = record { is_netlist = is; fault = TooWide number; broken = broken; told = refl }
shape_told n is TooLong own broken = record { is_netlist = is; fault = TooLong; broken = broken; told = refl }
shape_told n is Memory own broken = absurd (own refl)

-- why a text is no netlist is told
pub fault_told : (bytes : List ℕ) → length bytes ≤ MOST_BYTES → (fault : NetFault) → fault ≢ net.Memory → IsNetFault bytes fault → IsRefusedText bytes (net_line fault)
fault_told bytes few (net.Syntax place) own is = unread few (net.Syntax place) is
fault_told bytes few (net.UnknownCell place) own is = unread few (net.UnknownCell place) is
fault_told bytes few (net.BadPins place) own is = unread few (net.BadPins place) is
fault_told bytes few (net.Unsupported place) own is = unread few (net.Unsupported place) is
fault_told bytes few (net.Build fault) own (not_memory, parts, reads, is) = unbuilt few parts reads fault not_memory is
fault_told bytes few net.Memory own is = absurd (own refl)
