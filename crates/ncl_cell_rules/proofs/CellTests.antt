-- Tests of cells that compute: what holds of each cell of a written netlist that passes a test holds of each
-- cell that is so.
use Rattle.ncl_cell_rules.proofs.Terms.{Ack, All-contains, All-from_recursion, AllByRecursion, B, Bool, Cell, CellKind, Contains-from_Member, Gate, IsCell, IsDataRegister, IsGate, IsOfBank, IsRegister, Kind, Member-filter, Member-from_Contains, NetId, NetlistData, None, OnPin, Option, ReadsNet, Register, RegisterData, Some, and_from, and_parts, ap, bank_test, both_ways, data_is_register, data_test, eq-eqb, eqb-true, false, filter, gate_reads_test, has_net, is_data_register, is_gate, is_register, list_any-from_member, member_from_list_any, nat_eq, refl, register_test, slice_get, subst, true, ℕ, ◌∙◌, ◌≡◌}

-- what holds of each cell that passes a test
pub each_passing : (n : NetlistData) (test : Cell → Bool) (P : Cell → Type 0) → AllByRecursion P (filter test n.cells) → (c : Cell) → IsCell n c → test c ≡ true → P c
each_passing n test P all c in_c passes =
    All-contains P (filter test n.cells) c (All-from_recursion P (filter test n.cells) all)
    (Contains-from_Member c (Member-filter test c (Member-from_Contains n.cells c in_c) passes))

-- of each register cell
pub each_register : (n : NetlistData) (P : Cell → Type 0) → AllByRecursion P (filter register_test n.cells) → (c : Cell) → IsCell n c → IsRegister c → P c
each_register n P all c in_c register = each_passing n register_test P all c in_c register

-- a register cell of a bank passes its test
pub of_bank_passes : (n : NetlistData) (request : ℕ) (c : Cell) → IsOfBank n request c → bank_test request c ≡ true
of_bank_passes n request c (in_c, register, on) =
    and_from (is_register c.kind) _ register (ap (has_net request) on ∙ eq-eqb request request refl)

-- of each register cell of a bank
pub each_of_bank : (n : NetlistData) (request : ℕ) (P : Cell → Type 0) → AllByRecursion P (filter (bank_test request) n.cells) → (c : Cell) → IsOfBank n request c → P c
each_of_bank n request P all c of_bank = each_passing n (bank_test request) P all c of_bank.0 (of_bank_passes n request c of_bank)

net_is : (request : ℕ) (o : Option NetId) → has_net request o ≡ true → o ≡ Some (record { 0 = request })
net_is request None on = absurd (both_ways false refl on)
net_is request (Some id) on = ap (λ (x : ℕ). Some (record { 0 = x })) (eqb-true id.0 request on)

-- and what passes that test in the netlist is of the bank
pub of_bank-from_test : (n : NetlistData) (request : ℕ) (c : Cell) → IsCell n c → bank_test request c ≡ true → IsOfBank n request c
of_bank-from_test n request c in_c passes =
    let (is, on) = and_parts (is_register c.kind) _ passes in
    (in_c, is, net_is request (slice_get c.ins.items B) on)

-- a register cell of a bank that is reset to 1 passes its test
pub data_passes : (n : NetlistData) (request : ℕ) (c : Cell) → IsOfBank n request c → IsDataRegister c → data_test request c ≡ true
data_passes n request c of_bank data_is =
    and_from (is_data_register c.kind) _ data_is (ap (has_net request) of_bank.2 ∙ eq-eqb request request refl)

-- and what passes that test is such a cell
pub data-from_test : (n : NetlistData) (request : ℕ) (c : Cell) → IsCell n c → data_test request c ≡ true → IsOfBank n request c × IsDataRegister c
data-from_test n request c in_c passes =
    let (is, on) = and_parts (is_data_register c.kind) _ passes in
    ((in_c, data_is_register c.kind is, net_is request (slice_get c.ins.items B) on), is)

-- what is no gate cell passes no such test
pub no_gate : (k : CellKind) → ((kind : Kind) → k ≡ Gate kind → ⊥) → is_gate k ≡ false
no_gate (Gate kind) other = absurd (other kind refl)
no_gate Register other = refl
no_gate RegisterData other = refl
no_gate Ack other = refl

-- a gate cell that reads a net passes its test
pub gate_reads_passes : (net : ℕ) (c : Cell) → IsGate c → ReadsNet c net → gate_reads_test net c ≡ true
gate_reads_passes net c (kind, gate) reads =
    and_from (is_gate c.kind) _ (ap is_gate gate)
    (list_any-from_member (λ (id : NetId). nat_eq id.0 net) (record { 0 = net }) (Member-from_Contains c.ins.items (record { 0 = net }) reads) (eq-eqb net net refl))

-- of each gate cell that reads a net
pub each_gate_reading : (n : NetlistData) (net : ℕ) (P : Cell → Type 0) → AllByRecursion P (filter (gate_reads_test net) n.cells) → (c : Cell) → IsCell n c → IsGate c → ReadsNet c net → P c
each_gate_reading n net P all c in_c gate reads = each_passing n (gate_reads_test net) P all c in_c (gate_reads_passes net c gate reads)

-- and what passes that test is a gate cell that reads the net
pub gate_reads-from_test : (net : ℕ) (c : Cell) → gate_reads_test net c ≡ true → IsGate c × ReadsNet c net
gate_reads-from_test net c passes =
    let (is, reads) = and_parts (is_gate c.kind) _ passes in
    let (x, m, at) = member_from_list_any (λ (id : NetId). nat_eq id.0 net) c.ins.items reads in
    (kind_of c.kind is, subst (ReadsNet c) (eqb-true x.0 net at) (Contains-from_Member x m))
  where
    kind_of : (k : CellKind) → is_gate k ≡ true → (kind : _) × (k ≡ Gate kind)
    kind_of (Gate kind) is = (kind, refl)
    kind_of Register is = absurd (both_ways false refl is)
    kind_of RegisterData is = absurd (both_ways false refl is)
    kind_of Ack is = absurd (both_ways false refl is)

-- what holds of the net on a pin holds of each net on it
pub on_pin_each : (c : Cell) (pin x : ℕ) (P : ℕ → Type 0) → OnPin c pin x → P x → (net : ℕ) → OnPin c pin net → P net
on_pin_each c pin x P on holds net other =
    let same : Some (record { 0 = x }) ≡ Some (record { 0 = net }) = cc in
    let nets : x ≡ net = ap (number x) same in
    subst P nets holds
  where
    number : ℕ → Option NetId → ℕ
    number d None = d
    number d (Some id) = id.0

-- a pin has one net
pub same_net : (c : Cell) (pin x y : ℕ) → OnPin c pin x → OnPin c pin y → x ≡ y
same_net c pin x y on other = on_pin_each c pin x (λ z. x ≡ z) on refl y other
