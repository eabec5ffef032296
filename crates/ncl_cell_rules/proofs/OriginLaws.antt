-- The laws of origins: each net of a netlist has one, and what drives a net says which.
use Rattle.ncl_cell_rules.proofs.Terms.{Ack, AckOf, AcksBank, B, Cell, CellAt, CellKind, ComesFrom, Contains-from_slice_get, FromPort, Gate, IsAck, IsCell, IsFree, IsGate, IsInputPort, IsNetlist, IsOfBank, IsRegister, IsRequest, Kind, NetlistData, OnPin, Origin, RailOf, ReadsNet, Register, RegisterData, Some, ack, ap, arith, gate, get_or, inl, inr, is_register, length, length-map, length-take, pins_of, port, rail, refl, register_no_ack, register_no_gate, register_pins_of, slice_get, slice_get-from_Contains, slice_get-get_or, slice_get_within, subst, sym, true, ℕ, ◌+◌, ◌<◌, ◌∙◌, ◌≡◌, ◌⊎◌}
use Rattle.ncl_netlist.specs.declared.port.Port.{Port}
use Rattle.ncl_cell_rules.proofs.Drivers.{cell_fits, same_driver, no_cell_drives_port, driver_of}

sort_of_kind : (k : CellKind) → ((kind : Kind) × (k ≡ Gate kind)) ⊎ ((is_register k ≡ true) ⊎ (k ≡ Ack))
sort_of_kind (Gate kind) = inl (kind, refl)
sort_of_kind Register = inr (inl refl)
sort_of_kind RegisterData = inr (inl refl)
sort_of_kind Ack = inr (inr refl)

-- a cell is a gate cell, a register cell or an acknowledge cell
pub sort_of : (c : Cell) → IsGate c ⊎ (IsRegister c ⊎ IsAck c)
sort_of c = sort_of_kind c.kind

-- what is on a pin of a cell is read by it
pub ReadsNet-from_pin : (c : Cell) (pin net : ℕ) → OnPin c pin net → ReadsNet c net
ReadsNet-from_pin c pin net on = Contains-from_slice_get c.ins.items pin (record { 0 = net }) on

-- a cell of the netlist has a place in it
pub place_of : (n : NetlistData) (c : Cell) → IsCell n c → (k : ℕ) × CellAt n k c
place_of n c in_c = slice_get-from_Contains n.cells c in_c

-- a register cell has pins A and B, and so is of some bank
pub pin_of_register : (n : NetlistData) → IsNetlist n → (c : Cell) → IsCell n c → IsRegister c → (pin : ℕ) → pin < 3 → (net : ℕ) × OnPin c pin net
pin_of_register n is c in_c register pin lt =
    let pins : length c.ins.items + 1 ≡ length (pins_of c.kind) = (cell_fits n is c in_c).pins in
    let four : length (pins_of c.kind) ≡ 4 = ap length (register_pins_of c.kind register) in
    let at : slice_get c.ins.items pin ≡ Some (get_or c.ins.items pin (record { 0 = 0 })) = slice_get-get_or c.ins.items pin (record { 0 = 0 }) (omega (arith, pins, four)) in
    ((get_or c.ins.items pin (record { 0 = 0 })).0, at)

pub bank_of_register : (n : NetlistData) → IsNetlist n → (c : Cell) → IsCell n c → IsRegister c → (request : ℕ) × IsOfBank n request c
bank_of_register n is c in_c register =
    let (request, on) = pin_of_register n is c in_c register B (omega arith) in (request, (in_c, register, on))

-- ports are nets of the netlist, and so is each net with an origin
port_within : (n : NetlistData) → IsNetlist n → (net : ℕ) → IsInputPort n net → net < length n.nets
port_within n is net (p, at, input) =
    let lt : net < length n.ports = slice_get_within n.ports net p at in
    omega (arith, lt, ap length is.ports_first, length-take (length n.ports) n.nets, length-map n.ports (λ (x : Port). x.name))

pub origin_within : (n : NetlistData) → IsNetlist n → (net : ℕ) (origin : Origin) → ComesFrom n net origin → net < length n.nets
origin_within n is net origin (port at) = port_within n is net at
origin_within n is net origin (rail c of_bank) = (cell_fits n is c of_bank.0).output
origin_within n is net origin (ack c acks) = (cell_fits n is c acks.0).output
origin_within n is net origin (gate c in_c is_gate reads from) = (cell_fits n is c in_c).output

-- an input port has no other origin
pub port_origin : (n : NetlistData) → IsNetlist n → (net : ℕ) (origin : Origin) → IsInputPort n net → ComesFrom n net origin → origin ≡ FromPort
port_origin n is net origin input (port at) = refl
port_origin n is net origin input (rail c of_bank) = absurd (no_cell_drives_port n is c of_bank.0 input)
port_origin n is net origin input (ack c acks) = absurd (no_cell_drives_port n is c acks.0 input)
port_origin n is net origin input (gate c in_c is_gate reads from) = absurd (no_cell_drives_port n is c in_c input)

-- the output of a register cell comes from the bank's rails
pub register_origin : (n : NetlistData) → IsNetlist n → (c : Cell) → IsCell n c → IsRegister c → (net : ℕ) (origin : Origin) → c.out.0 ≡ net → ComesFrom n net origin → (request : ℕ) × IsOfBank n request c × (origin ≡ RailOf request)
register_origin n is c in_c register net origin out (port at) = absurd (no_cell_drives_port n is c in_c (subst (IsInputPort n) (sym out) at))
register_origin n is c in_c register net origin out (rail {request = request} d of_bank) =
    let same : c ≡ d = same_driver n is c d in_c of_bank.0 out in
    (request, subst (IsOfBank n request) (sym same) of_bank, refl)
register_origin n is c in_c register net origin out (ack d acks) =
    let same : c ≡ d = same_driver n is c d in_c acks.0 out in
    let kinds : c.kind ≡ d.kind = ap (λ (x : Cell). x.kind) same in
    absurd (register_no_ack c.kind register (kinds ∙ acks.1))
register_origin n is c in_c register net origin out (gate d in_d is_gate reads from) =
    let same : c ≡ d = same_driver n is c d in_c in_d out in
    let kinds : c.kind ≡ d.kind = ap (λ (x : Cell). x.kind) same in
    absurd (register_no_gate c.kind register is_gate.0 (kinds ∙ is_gate.1))

-- the output of an acknowledge cell comes from the acknowledge cells of its bank
pub ack_origin : (n : NetlistData) → IsNetlist n → (c : Cell) → IsCell n c → IsAck c → (net : ℕ) (origin : Origin) → c.out.0 ≡ net → ComesFrom n net origin → (request : ℕ) × AcksBank n request c × (origin ≡ AckOf request)
ack_origin n is c in_c is_ack net origin out (port at) = absurd (no_cell_drives_port n is c in_c (subst (IsInputPort n) (sym out) at))
ack_origin n is c in_c is_ack net origin out (rail d of_bank) =
    let same : c ≡ d = same_driver n is c d in_c of_bank.0 out in
    let kinds : c.kind ≡ d.kind = ap (λ (x : Cell). x.kind) same in
    absurd (register_no_ack d.kind of_bank.1 (sym kinds ∙ is_ack))
ack_origin n is c in_c is_ack net origin out (ack {request = request} d acks) =
    let same : c ≡ d = same_driver n is c d in_c acks.0 out in
    (request, subst (AcksBank n request) (sym same) acks, refl)
ack_origin n is c in_c is_ack net origin out (gate d in_d is_gate reads from) =
    let same : c ≡ d = same_driver n is c d in_c in_d out in
    let kinds : c.kind ≡ d.kind = ap (λ (x : Cell). x.kind) same in
    let gates : d.kind ≡ Gate is_gate.0 = is_gate.1 in
    absurd cc

-- a net that comes from a bank's rails is the output of a cell
pub cell_of_rail : (n : NetlistData) (net : ℕ) (origin : Origin) (bank : ℕ) → origin ≡ RailOf bank → ComesFrom n net origin → (c : Cell) × IsCell n c × (c.out.0 ≡ net)
cell_of_rail n net origin bank e (port at) = absurd cc
cell_of_rail n net origin bank e (rail c of_bank) = (c, of_bank.0, refl)
cell_of_rail n net origin bank e (ack c acks) = (c, acks.0, refl)
cell_of_rail n net origin bank e (gate c in_c is_gate reads from) = (c, in_c, refl)

-- where a net comes from the acknowledge cells of a bank, there is one
pub ack_of_bank : (n : NetlistData) (net : ℕ) (origin : Origin) (bank : ℕ) → origin ≡ AckOf bank → ComesFrom n net origin → (c : Cell) × AcksBank n bank c
ack_of_bank n net origin bank e (port at) = absurd cc
ack_of_bank n net origin bank e (rail c of_bank) = absurd cc
ack_of_bank n net origin bank e (ack {request = request} c acks) =
    let same : request ≡ bank = cc in (c, subst (λ r. AcksBank n r c) same acks)
ack_of_bank n net origin bank e (gate {net = input} {origin = from_origin} c in_c is_gate reads from) = ack_of_bank n input from_origin bank e from

-- and there is such a bank
pub bank_of_rail : (n : NetlistData) (net : ℕ) (origin : Origin) (bank : ℕ) → origin ≡ RailOf bank → ComesFrom n net origin → IsRequest n bank
bank_of_rail n net origin bank e (port at) = absurd cc
bank_of_rail n net origin bank e (rail {request = request} c of_bank) =
    let same : request ≡ bank = cc in (c, subst (λ r. IsOfBank n r c) same of_bank)
bank_of_rail n net origin bank e (ack c acks) = absurd cc
bank_of_rail n net origin bank e (gate {net = input} {origin = from_origin} c in_c is_gate reads from) = bank_of_rail n input from_origin bank e from

-- a net that comes from a bank's acknowledge cells is the output of an acknowledge cell or a gate cell
pub driver_of_ack : (n : NetlistData) (net : ℕ) (origin : Origin) (bank : ℕ) → origin ≡ AckOf bank → ComesFrom n net origin → (c : Cell) × IsCell n c × (c.out.0 ≡ net) × (IsAck c ⊎ IsGate c)
driver_of_ack n net origin bank e (port at) = absurd cc
driver_of_ack n net origin bank e (rail c of_bank) = absurd cc
driver_of_ack n net origin bank e (ack c acks) = (c, acks.0, refl, inl acks.1)
driver_of_ack n net origin bank e (gate c in_c is_gate reads from) = (c, in_c, refl, inr is_gate)

-- where the first five rules hold, each acknowledge cell is of some bank
pub bank_of_ack : (n : NetlistData) → IsFree n → (c : Cell) → IsCell n c → IsAck c → (request : ℕ) × AcksBank n request c
bank_of_ack n free c in_c is_ack =
    let (k, at) = place_of n c in_c in
    let bit = (free.paired k c at).ack is_ack in
    (bit.request, (in_c, is_ack, (bit.zero, bit.zero_of, bit.on_a)))

-- and each net has an origin
pub has_origin : (n : NetlistData) → IsNetlist n → IsFree n → (net : ℕ) → net < length n.nets → (origin : Origin) × ComesFrom n net origin
has_origin n is free net lt =
    elim (driver_of n is net lt) [
      | inl input ↦ (FromPort, port input)
      | inr (c, in_c, out) ↦
          let (origin, from) = of_cell c in_c in (origin, subst (λ x. ComesFrom n x origin) out from)
    ]
  where
    of_cell : (c : Cell) → IsCell n c → (origin : Origin) × ComesFrom n c.out.0 origin
    of_cell c in_c =
        let (k, at) = place_of n c in_c in
        elim (sort_of c) [
          | inl (kind, is_gate) ↦
              elim ((free.unmixed k c at).gate kind is_gate) [
                | inl (request, only) ↦ (RailOf request, only.comes)
                | inr (request, only, tree) ↦ (AckOf request, only.comes)
              ]
          | inr (inl register) ↦
              let (request, of_bank) = bank_of_register n is c in_c register in (RailOf request, rail c of_bank)
          | inr (inr is_ack) ↦
              let (request, acks) = bank_of_ack n free c in_c is_ack in (AckOf request, ack c acks)
        ]
