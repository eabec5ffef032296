-- Where the output of a gate cell comes from.
use Rattle.ncl_cell_rules.proofs.Terms.{Ack, Cell, ComesFrom, Gate, IsAck, IsCell, IsGate, IsInputPort, IsNetlist, IsRegister, NetlistData, Origin, ReadsNet, ack, ap, gate, port, rail, register_no_gate, subst, sym, ℕ, ◌∙◌, ◌≡◌}
use Rattle.ncl_cell_rules.proofs.Drivers.{same_driver, no_cell_drives_port}

-- a gate cell is no cell of the other sorts
gate_register : (c d : Cell) → c ≡ d → IsGate c → IsRegister d → ⊥
gate_register c d same (kind, is_gate) register =
    let kinds : c.kind ≡ d.kind = ap (λ (x : Cell). x.kind) same in
    register_no_gate d.kind register kind (sym kinds ∙ is_gate)

gate_ack : (c d : Cell) → c ≡ d → IsGate c → IsAck d → ⊥
gate_ack c d same (kind, is_gate) is_ack =
    let kinds : c.kind ≡ d.kind = ap (λ (x : Cell). x.kind) same in
    let clash : Gate kind ≡ Ack = sym is_gate ∙ kinds ∙ is_ack in
    absurd cc

-- the output of a gate cell comes from where some input does
pub gate_origin : (n : NetlistData) → IsNetlist n → (c : Cell) → IsCell n c → IsGate c → (net : ℕ) (origin : Origin) → c.out.0 ≡ net → ComesFrom n net origin → (input : ℕ) × ReadsNet c input × ComesFrom n input origin
gate_origin n is c in_c is_gate net origin out (port at) = absurd (no_cell_drives_port n is c in_c (subst (IsInputPort n) (sym out) at))
gate_origin n is c in_c is_gate net origin out (rail d of_bank) = absurd (gate_register c d (same_driver n is c d in_c of_bank.0 out) is_gate of_bank.1)
gate_origin n is c in_c is_gate net origin out (ack d acks) = absurd (gate_ack c d (same_driver n is c d in_c acks.0 out) is_gate acks.1)
gate_origin n is c in_c is_gate net origin out (gate {net = input} d in_d is_gate_d reads from) =
    (input, subst (λ (x : Cell). ReadsNet x input) (sym (same_driver n is c d in_c in_d out)) reads, from)
