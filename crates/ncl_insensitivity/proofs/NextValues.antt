-- Next values of the cells of a netlist: of a gate of a stage, and of a register cell.
use Rattle.ncl_insensitivity.proofs.Terms.{Bool, Cell, IsCellOf, IsRegisterOn, IsStage, List, Member, NetId, Nets, Some, StageCell, StageData, Th22, [], ap, at_register, both_ways, differ, differ_from_not, false, local, nets_of, next_of, next_of_cell, next_of_gate, next_value, not, not-not, out_of, pin_values, refl, slice_get, sym, take, true, ℕ, ◌∙◌, ◌∷◌, ◌≡◌}
pub use Rattle.ncl_insensitivity.proofs.Phases.{gate_local, gate_moves}

-- ---- a gate of a stage

-- its next value is that of the gate
pub gate-next : (v : Nets) (cell : Cell) (g : StageCell) → IsCellOf cell g → next_value v cell ≡ next_of_gate v g
gate-next v cell g is =
    ap (λ k. next_of_cell k (pin_values v cell.ins.items) (v cell.out.0)) is.kind
    ∙ ap (λ ins. next_of g.kind (pin_values v ins) (v cell.out.0)) is.ins
    ∙ ap (λ x. next_of g.kind (pin_values v g.ins.items) (v x)) is.out

-- it is excited in the machine as it is in its stage
pub gate-excitation : {s : StageData} → IsStage s → (v : Nets) (cell : Cell) (g : StageCell) → Member g s.cells → IsCellOf cell g
    → differ (next_value v cell) (v cell.out.0) ≡ differ (next_of_gate (local (nets_of s.inputs s.cells) v) g) (local (nets_of s.inputs s.cells) v (out_of g))
gate-excitation {s} is_stage v cell g m is =
    let (same_next, same_out) = gate_local is_stage v g m in
    ap (λ x. differ (next_value v cell) (v x)) is.out
    ∙ ap (λ x. differ x (v (out_of g))) (gate-next v cell g is ∙ sym same_next)
    ∙ ap (differ (next_of_gate (local (nets_of s.inputs s.cells) v) g)) (sym same_out)

-- ---- a register cell

-- it reads the nets on A and B, in this order
two-pins : (v : Nets) (ins : List NetId) (a b : ℕ) → slice_get ins 0 ≡ Some (record { 0 = a }) → slice_get ins 1 ≡ Some (record { 0 = b })
    → take 2 (pin_values v ins) ≡ v a ∷ v b ∷ []
two-pins v [] a b at_a at_b = absurd cc
two-pins v (x ∷ []) a b at_a at_b = absurd cc
two-pins v (x ∷ y ∷ rest) a b at_a at_b =
    let first : x ≡ record { 0 = a } = cc in
    let second : y ≡ record { 0 = b } = cc in
    ap (λ (z : NetId). v z.0 ∷ v y.0 ∷ []) first ∙ ap (λ (z : NetId). v a ∷ v z.0 ∷ []) second

pub register-next : (v : Nets) (cell : Cell) (a b z : ℕ) → IsRegisterOn cell a b z → next_value v cell ≡ next_of Th22 (v a ∷ v b ∷ []) (v z)
register-next v cell a b z on =
    at_register (λ k. next_of_cell k (pin_values v cell.ins.items) (v cell.out.0)) (next_of Th22 (take 2 (pin_values v cell.ins.items)) (v cell.out.0)) refl refl cell.kind on.register
    ∙ ap (λ pins. next_of Th22 pins (v cell.out.0)) (two-pins v cell.ins.items a b on.on_a on.on_b)
    ∙ ap (λ x. next_of Th22 (v a ∷ v b ∷ []) (v x)) on.out

both-same : (e old : Bool) → next_of Th22 (e ∷ e ∷ []) old ≡ e
both-same true true = refl
both-same true false = refl
both-same false true = refl
both-same false false = refl

-- where the nets on A and B have one value, that is its next
pub register-takes : (v : Nets) (cell : Cell) (a b z : ℕ) → IsRegisterOn cell a b z → (e : Bool) → v a ≡ e → v b ≡ e → next_value v cell ≡ e
register-takes v cell a b z on e a_is b_is =
    register-next v cell a b z on ∙ ap (λ x. next_of Th22 (x ∷ v b ∷ []) (v z)) a_is ∙ ap (λ x. next_of Th22 (e ∷ x ∷ []) (v z)) b_is
    ∙ both-same e (v z)

-- so where it hasn't that value it is excited
pub register-excited : (v : Nets) (cell : Cell) (a b z : ℕ) → IsRegisterOn cell a b z → (e : Bool) → v a ≡ e → v b ≡ e → v z ≡ not e
    → differ (next_value v cell) (v cell.out.0) ≡ true
register-excited v cell a b z on e a_is b_is z_is =
    differ_from_not _ _ (register-takes v cell a b z on e a_is b_is ∙ sym (not-not e) ∙ ap not (sym (ap v on.out ∙ z_is)))

-- and there alone
th22-turns : (a b z : Bool) → differ (next_of Th22 (a ∷ b ∷ []) z) z ≡ true → (a ≡ not z) × (b ≡ not z)
th22-turns true true true t = absurd (both_ways false refl t)
th22-turns true true false t = (refl, refl)
th22-turns true false true t = absurd (both_ways false refl t)
th22-turns true false false t = absurd (both_ways false refl t)
th22-turns false true true t = absurd (both_ways false refl t)
th22-turns false true false t = absurd (both_ways false refl t)
th22-turns false false true t = (refl, refl)
th22-turns false false false t = absurd (both_ways false refl t)

pub register-turns : (v : Nets) (cell : Cell) (a b z : ℕ) → IsRegisterOn cell a b z → differ (next_value v cell) (v cell.out.0) ≡ true
    → (v a ≡ not (v z)) × (v b ≡ not (v z))
register-turns v cell a b z on excited =
    th22-turns (v a) (v b) (v z) (ap (λ x. differ x (v z)) (sym (register-next v cell a b z on)) ∙ ap (λ x. differ (next_value v cell) (v x)) (sym on.out) ∙ excited)
