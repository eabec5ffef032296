-- What the two register cells have in common, and that they are of no other sort.
use Rattle.ncl_gates.proofs.Terms.{Ack, CellKind, Gate, Register, RegisterData, ap, both_ways, false, is_data_register, is_register, pins_of, refl, true, ◌≡◌}

-- what holds of both register cells holds of each cell that is one
pub by_register : (P : CellKind → Type 0) → P Register → P RegisterData → (k : CellKind) → is_register k ≡ true → P k
by_register P plain data_is Register is = plain
by_register P plain data_is RegisterData is = data_is
by_register P plain data_is (Gate kind) is = absurd (both_ways false refl is)
by_register P plain data_is Ack is = absurd (both_ways false refl is)

-- a function that doesn't tell them apart
pub at_register : {X : Type 0} (f : CellKind → X) (x : X) → f Register ≡ x → f RegisterData ≡ x → (k : CellKind) → is_register k ≡ true → f k ≡ x
at_register f x plain data_is k is = by_register (λ kind. f kind ≡ x) plain data_is k is

-- a register cell has the pins A, B, RST and Z
pub register_pins_of : (k : CellKind) → is_register k ≡ true → pins_of k ≡ pins_of Register
register_pins_of k is = at_register pins_of (pins_of Register) refl refl k is

-- and is no acknowledge cell and no gate
pub register_no_ack : (k : CellKind) → is_register k ≡ true → k ≡ Ack → ⊥
register_no_ack k is ack = both_ways (is_register k) (ap is_register ack) is

pub register_no_gate : (k : CellKind) → is_register k ≡ true → (kind : _) → k ≡ Gate kind → ⊥
register_no_gate k is kind gate = both_ways (is_register k) (ap is_register gate) is

-- a cell that is reset to 1 is a register cell
pub data_is_register : (k : CellKind) → is_data_register k ≡ true → is_register k ≡ true
data_is_register RegisterData is = refl
data_is_register Register is = refl
data_is_register (Gate kind) is = absurd (both_ways false refl is)
data_is_register Ack is = absurd (both_ways false refl is)
