-- Evaluating the cells of a stage once, in their order, gives its values.
use Rattle.ncl_faults.proofs.Terms.{All, All-head, All-tail, Bool, Contains, IsStage, List, Member, Member-append_right, Member-from_Contains, NetId, Nets, StageCell, StageData, Variant, [], among, and_from, and_parts, ap, append-nil, append_assoc, cases_eq, cond, eq-eqb, eqb-true, false, fun_ext, here, inl, inr, kept_low, list_any-append, list_any-from_member, map, map-append, member_from_list_any, nat_eq, ne_eqb, nets_of, not, or_left, or_right, out_of, pass, pin_values, rail_nets, refl, rises, same_from_both, set_of, start, subst, sym, true, val, with_net, ℕ, ◌&&◌, ◌++◌, ◌||◌, ◌∙◌, ◌∷◌, ◌≡◌}
use Rattle.ncl_faults.proofs.ValueLaws.{val-keeps, val-rail, val-output, val-within, start-within}

-- the values where some cells have been evaluated: those of the rails and of the outputs of these cells,
-- and all else is low
abbrev pub known : StageData → List Bool → Variant → List StageCell → Nets
known s word variant cells net = among (nets_of s.inputs cells) net && val s word variant net

pub among-from_member : (net : ℕ) {nets : List ℕ} → Member net nets → among nets net ≡ true
among-from_member net {nets} m = list_any-from_member (nat_eq net) net m (eq-eqb net net refl)

-- at first only rails are high
pub known-none : (s : StageData) → IsStage s → (word : List Bool) (variant : Variant) (net : ℕ) → known s word variant [] net ≡ start s (kept_low s variant) word net
known-none s is word variant net = same_from_both _ _
    (λ high.
    let (rail, up) = and_parts (among (nets_of s.inputs []) net) _ high in
    sym (val-rail s is word variant net (member_from_among net (rail_nets s.inputs) (subst (λ nets. among nets net ≡ true) (append-nil (rail_nets s.inputs)) rail))) ∙ up)
    (λ high.
    and_from _ _
    (subst (λ nets. among nets net ≡ true) (sym (append-nil (rail_nets s.inputs))) (among-from_member net (start-within s (kept_low s variant) word net high)))
    (val-keeps s word variant net high))
  where
    member_from_among : (net : ℕ) (nets : List ℕ) → among nets net ≡ true → Member net nets
    member_from_among net nets high = let (x, m, at) = member_from_list_any (nat_eq net) nets high in subst (λ y. Member y nets) (sym (eqb-true net x at)) m

-- in the end all are known
pub known-all : (s : StageData) (word : List Bool) (variant : Variant) (net : ℕ) → known s word variant s.cells net ≡ val s word variant net
known-all s word variant net = same_from_both _ _
    (λ high. (and_parts (among (nets_of s.inputs s.cells) net) _ high).1)
    (λ high. and_from _ _ (among-from_member net (val-within s word variant net high)) high)

-- values at known nets
pins-known : (s : StageData) (word : List Bool) (variant : Variant) (before : List StageCell) (ins : List NetId) → All (λ (net : NetId). Contains (nets_of s.inputs before) net.0) ins → pin_values (known s word variant before) ins ≡ pin_values (val s word variant) ins
pins-known s word variant before [] reads = refl
pins-known s word variant before (net ∷ ins) reads =
    let first : known s word variant before net.0 ≡ val s word variant net.0 =
    ap (λ b. b && val s word variant net.0) (among-from_member net.0 (Member-from_Contains (nets_of s.inputs before) net.0 (All-head (λ (net : NetId). Contains (nets_of s.inputs before) net.0) net ins reads))) in
    let rest = pins-known s word variant before ins (All-tail (λ (net : NetId). Contains (nets_of s.inputs before) net.0) net ins reads) in
    cc

-- a cell rises at the known values where it rises in the end
pub rises-known : (s : StageData) → IsStage s → (word : List Bool) (variant : Variant) (before after : List StageCell) (c : StageCell) → s.cells ≡ before ++ c ∷ after → rises (kept_low s variant) (known s word variant before) c ≡ val s word variant (out_of c)
rises-known s is word variant before after c parts =
    ap (λ pins. not (kept_low s variant c.out.0) && set_of c.kind pins) (pins-known s word variant before c.ins.items (is.in_order before after c parts))
    ∙ sym (val-output s is word variant c (subst (λ cells. Member c cells) (sym parts) (Member-append_right before c here)))

-- the nets that are known where one more cell has been evaluated
nets_of-more : (s : StageData) (before : List StageCell) (c : StageCell) → nets_of s.inputs (before ++ c ∷ []) ≡ nets_of s.inputs before ++ out_of c ∷ []
nets_of-more s before c = ap (λ nets. rail_nets s.inputs ++ nets) (map-append out_of before (c ∷ [])) ∙ sym (append_assoc (rail_nets s.inputs) (map out_of before) (out_of c ∷ []))

-- one more cell: its output takes the value that it has at what is known
pub known-more : (s : StageData) → IsStage s → (word : List Bool) (variant : Variant) (before after : List StageCell) (c : StageCell) → s.cells ≡ before ++ c ∷ after → (net : ℕ) → known s word variant (before ++ c ∷ []) net ≡ with_net (known s word variant before) c.out.0 (rises (kept_low s variant) (known s word variant before) c) net
known-more s is word variant before after c parts net =
    let nets : among (nets_of s.inputs (before ++ c ∷ [])) net ≡ (among (nets_of s.inputs before) net || (nat_eq net (out_of c) || false)) =
    ap (λ nets. among nets net) (nets_of-more s before c) ∙ list_any-append (nat_eq net) (nets_of s.inputs before) (out_of c ∷ []) in
    elim (cases_eq c.out.0 net) [
      | inl same ↦
          let own : nat_eq net (out_of c) ≡ true = eq-eqb net (out_of c) (sym same) in
          ap (λ b. b && val s word variant net) (nets ∙ or_right (among (nets_of s.inputs before) net) _ (or_left _ false own))
          ∙ ap (val s word variant) (sym same)
          ∙ sym (rises-known s is word variant before after c parts)
          ∙ sym (ap (λ b. cond b (rises (kept_low s variant) (known s word variant before) c) (known s word variant before net)) (eq-eqb c.out.0 net same))
      | inr other ↦
          let own : nat_eq net (out_of c) ≡ false = ne_eqb net (out_of c) (λ e. other (sym e)) in
          ap (λ b. b && val s word variant net) (nets ∙ ap (λ b. among (nets_of s.inputs before) net || (b || false)) own ∙ or_false (among (nets_of s.inputs before) net))
          ∙ sym (ap (λ b. cond b (rises (kept_low s variant) (known s word variant before) c) (known s word variant before net)) (ne_eqb c.out.0 net other))
    ]
  where
    or_false : (b : Bool) → (b || false) ≡ b
    or_false true = refl
    or_false false = refl

-- a pass over the cells that are left, from the known values
pass-known : (s : StageData) → IsStage s → (word : List Bool) (variant : Variant) (before after : List StageCell) → s.cells ≡ before ++ after → pass (kept_low s variant) after (known s word variant before) ≡ val s word variant
pass-known s is word variant before [] parts = fun_ext (λ net. ap (λ cells. known s word variant cells net) (sym (parts ∙ append-nil before)) ∙ known-all s word variant net)
pass-known s is word variant before (c ∷ after) parts =
    ap (pass (kept_low s variant) after) (fun_ext (λ net. sym (known-more s is word variant before after c parts net)))
    ∙ pass-known s is word variant (before ++ c ∷ []) after (parts ∙ sym (append_assoc before (c ∷ []) after))

-- one pass from the start gives the values
pub pass-val : (s : StageData) → IsStage s → (word : List Bool) (variant : Variant) (net : ℕ) → pass (kept_low s variant) s.cells (start s (kept_low s variant) word) net ≡ val s word variant net
pass-val s is word variant net =
    ap (λ v. pass (kept_low s variant) s.cells v net) (fun_ext (λ x. sym (known-none s is word variant x)))
    ∙ ap (λ v. v net) (pass-known s is word variant [] s.cells refl)
