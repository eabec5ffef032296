-- What the gates of a tree read, and what is read.
use Rattle.std.proofs.Common.{◌≡◌, List, [], ◌∷◌, ◌++◌, length, map, ◌⊎◌, inl, inr, refl, sym, ap, subst, arith, append_assoc, length-append}
use Rattle.ncl_base.proofs.Members.{Member, here, there, member_cases, Member-append_left, Member-append_right, Member-append_cases}
use Rattle.ncl_netlist.specs.declared.ids.NetId.{NetId}
use Rattle.ncl_shape.specs.declared.stage.StageCell.{StageCell}
use Rattle.ncl_tree.specs.declared.tree.Family.{Family}
use Rattle.ncl_tree.specs.GateTree.{IsFamilyGate, GateTree, one, more}

-- the nets that gates drive
abbrev pub outs_of : List StageCell → List NetId
outs_of cells = map (λ (c : StageCell). c.out) cells

-- some gate reads the net
abbrev pub IsRead : List StageCell → NetId → Type 0
IsRead cells net = (c : StageCell) × Member c cells × Member net c.ins.items

-- each gate is of the family
pub gates_are_of_family : (family : Family) (leaves : List NetId) (made : List StageCell) (root : NetId) → GateTree family leaves made root → (c : StageCell) → Member c made → IsFamilyGate family c
gates_are_of_family family _ _ _ (one net) c m = elim m [ ]
gates_are_of_family family _ _ _ (more g rest gates root is tree) c m =
    elim (member_cases c g gates m) [
      | inl same ↦ subst (IsFamilyGate family) same is
      | inr later ↦ gates_are_of_family family (rest ++ g.out ∷ []) gates root tree c later
    ]

-- the outputs of the gates so far, after the leaves and after the queue
known_more : (net : NetId) (ins rest : List NetId) (out : NetId) (outs : List NetId) → Member net ((rest ++ out ∷ []) ++ outs) → Member net ((ins ++ rest) ++ out ∷ outs)
known_more net ins rest out outs m =
    subst (Member net) (sym (append_assoc ins rest (out ∷ outs)))
    (Member-append_right ins net (subst (Member net) (append_assoc rest (out ∷ []) outs) m))

-- each gate reads leaves and outputs of earlier gates
pub gate_reads : (family : Family) (leaves : List NetId) (made : List StageCell) (root : NetId) → GateTree family leaves made root → (before after : List StageCell) (c : StageCell) → made ≡ before ++ c ∷ after → (net : NetId) → Member net c.ins.items → Member net (leaves ++ outs_of before)
gate_reads family _ _ _ (one net) [] after c is _ m = absurd cc
gate_reads family _ _ _ (one net) (b ∷ before) after c is _ m = absurd cc
gate_reads family _ _ _ (more g rest gates root fits tree) [] after c is net m =
    let same : c ≡ g = cc in
    Member-append_left net [] (Member-append_left net rest (subst (λ (c : StageCell). Member net c.ins.items) same m))
gate_reads family _ _ _ (more g rest gates root fits tree) (b ∷ before) after c is net m =
    let same : g ≡ b = cc in
    let later : gates ≡ before ++ c ∷ after = cc in
    subst (λ (b : StageCell). Member net ((g.ins.items ++ rest) ++ b.out ∷ outs_of before)) same
    (known_more net g.ins.items rest g.out (outs_of before) (gate_reads family (rest ++ g.out ∷ []) gates root tree before after c later net m))

-- each leaf and each output of a gate is read by a gate, but for the root
pub root_or_read : (family : Family) (leaves : List NetId) (made : List StageCell) (root : NetId) → GateTree family leaves made root → (net : NetId) → Member net (leaves ++ outs_of made) → (net ≡ root) ⊎ IsRead made net
root_or_read family _ _ _ (one root) net m = elim (member_cases net root [] m) [ inl same ↦ inl (sym same) | inr none ↦ elim none [ ] ]
root_or_read family _ _ _ (more g rest gates root fits tree) net m =
    elim (Member-append_cases net g.ins.items (rest ++ g.out ∷ outs_of gates) (subst (Member net) (append_assoc g.ins.items rest (g.out ∷ outs_of gates)) m)) [
      | inl taken ↦ inr (g, here, taken)
      | inr left ↦
          elim (root_or_read family (rest ++ g.out ∷ []) gates root tree net (subst (Member net) (sym (append_assoc rest (g.out ∷ []) (outs_of gates))) left)) [
            | inl same ↦ inl same
            | inr (c, later, reads) ↦ inr (c, there later, reads)
          ]
    ]

last_left : (rest : List NetId) (out root : NetId) → rest ++ out ∷ [] ≡ root ∷ [] → out ≡ root
last_left [] out root is = cc
last_left (net ∷ rest) out root is =
    let longer : rest ++ out ∷ [] ≡ [] = cc in
    absurd (omega (arith, ap length longer, length-append rest (out ∷ [])))

-- there is no gate and one leaf, which is the root; or the root is the output of the last gate
pub root_is_last : (family : Family) (leaves : List NetId) (made : List StageCell) (root : NetId) → GateTree family leaves made root → ((made ≡ []) × (leaves ≡ root ∷ [])) ⊎ ((front : List StageCell) × (c : StageCell) × (made ≡ front ++ c ∷ []) × (root ≡ c.out))
root_is_last family _ _ _ (one net) = inl (refl, refl)
root_is_last family _ _ _ (more g rest gates root fits tree) =
    elim (root_is_last family (rest ++ g.out ∷ []) gates root tree) [
      | inl (none, left) ↦ inr ([], g, ap (λ gates. g ∷ gates) none, sym (last_left rest g.out root left))
      | inr (front, c, is, out) ↦ inr (g ∷ front, c, ap (λ gates. g ∷ gates) is, out)
    ]
