-- The laws of gates over two pairs.
use Rattle.ncl_template.proofs.Terms.{A0, A1, B0, B1, Bool, IsNull, IsTwoGate, List, Member, NetId, Nets, Rails, StageCell, TableRow, Wire, [], and_parts, ap, arity_of, beq, both_ways, eqb-true, false, here, holds, inl, inr, length, length-map, map, member_of_map, nat_eq, not, not-true, or_cases, pin_values, rail_nets, refl, row_value, set_of, subst, sym, there, true, two_kind, two_pins, wire_net, ◌&&◌, ◌||◌, ◌∙◌, ◌∷◌, ◌≡◌}

-- a test that both values pass, passes
each : (p : Bool → Bool) → (p true && p false) ≡ true → (b : Bool) → p b ≡ true
each p all true = (and_parts (p true) (p false) all).0
each p all false = (and_parts (p true) (p false) all).1

abbrev all2 : (Bool → Bool → Bool) → Bool
all2 p = (p true true && p true false) && (p false true && p false false)

each2 : (p : Bool → Bool → Bool) → all2 p ≡ true → (a b : Bool) → p a b ≡ true
each2 p all true b = each (p true) (and_parts _ _ all).0 b
each2 p all false b = each (p false) (and_parts _ _ all).1 b

abbrev all4 : (Bool → Bool → Bool → Bool → Bool) → Bool
all4 p = all2 (λ a b. all2 (p a b))

each4 : (p : Bool → Bool → Bool → Bool → Bool) → all4 p ≡ true → (a b c d : Bool) → p a b c d ≡ true
each4 p all a b = each2 (p a b) (each2 (λ x y. all2 (p x y)) all a b)

beq-true : (a b : Bool) → beq a b ≡ true → a ≡ b
beq-true true true e = refl
beq-true true false e = absurd cc
beq-true false true e = absurd cc
beq-true false false e = refl

-- ---- the sets, by computation

abbrev wire_value : Bool → Bool → Bool → Bool → Wire → Bool
wire_value a0 a1 b0 b1 A0 = a0
wire_value a0 a1 b0 b1 A1 = a1
wire_value a0 a1 b0 b1 B0 = b0
wire_value a0 a1 b0 b1 B1 = b1

-- the set function of the gate at values of the nets
abbrev two_set : Bool → Bool → Bool → Bool → Bool → Bool → Bool → Bool → Bool
two_set s00 s01 s10 s11 a0 a1 b0 b1 = set_of (two_kind s00 s01 s10 s11) (map (wire_value a0 a1 b0 b1) (two_pins s00 s01 s10 s11))

-- the set of words that pass these tests
abbrev of_four : Bool → Bool → Bool → Bool → TableRow
of_four s00 s01 s10 s11 = record { at_00 = s00; at_01 = s01; at_10 = s10; at_11 = s11 }

-- where two bits are shown
abbrev shown : Bool → Bool → Bool → Bool → Bool → Bool → Bool
shown s00 s01 s10 s11 x y = beq (two_set s00 s01 s10 s11 (not x) x (not y) y) (row_value (of_four s00 s01 s10 s11) (x ∷ y ∷ []))

set_shown : (s00 s01 s10 s11 x y : Bool) → two_set s00 s01 s10 s11 (not x) x (not y) y ≡ row_value (of_four s00 s01 s10 s11) (x ∷ y ∷ [])
set_shown s00 s01 s10 s11 x y = beq-true _ _ (each2 (shown s00 s01 s10 s11) (each4 (λ p q r s. all2 (shown p q r s)) refl s00 s01 s10 s11) x y)

-- where a pair is NULL, and at most one net of the other is high
abbrev low : Bool → Bool → Bool → Bool → Bool → Bool → Bool
low s00 s01 s10 s11 x y = (x && y) || (not (two_set s00 s01 s10 s11 false false x y) && not (two_set s00 s01 s10 s11 x y false false))

set_low : (s00 s01 s10 s11 x y : Bool) → (x && y) ≡ false → (two_set s00 s01 s10 s11 false false x y ≡ false) × (two_set s00 s01 s10 s11 x y false false ≡ false)
set_low s00 s01 s10 s11 x y one =
    elim (or_cases (x && y) _ (each2 (low s00 s01 s10 s11) (each4 (λ p q r s. all2 (low p q r s)) refl s00 s01 s10 s11) x y)) [
      | inl both ↦ absurd (both_ways _ one both)
      | inr parts ↦ let each = and_parts _ _ parts in (not-true _ each.0, not-true _ each.1)
    ]

-- ---- gates of a stage

pins_wires : (v : Nets) (a b : Rails) (wires : List Wire) → pin_values v (map (wire_net a b) wires) ≡ map (wire_value (v a.zero.0) (v a.one.0) (v b.zero.0) (v b.one.0)) wires
pins_wires v a b [] = refl
pins_wires v a b (wire ∷ wires) = λ i. first wire i ∷ pins_wires v a b wires i
  where
    first : (wire : Wire) → v (wire_net a b wire).0 ≡ wire_value (v a.zero.0) (v a.one.0) (v b.zero.0) (v b.one.0) wire
    first A0 = refl
    first A1 = refl
    first B0 = refl
    first B1 = refl

module _ (set : TableRow) (a b : Rails) (c : StageCell) (is : IsTwoGate set a b c) where
  two_holds : (v : Nets) → holds v c ≡ two_set set.at_00 set.at_01 set.at_10 set.at_11 (v a.zero.0) (v a.one.0) (v b.zero.0) (v b.one.0)
  two_holds v =
      (λ i. set_of (is.kind i) (pin_values v (is.ins i)))
      ∙ ap (set_of (two_kind set.at_00 set.at_01 set.at_10 set.at_11)) (pins_wires v a b (two_pins set.at_00 set.at_01 set.at_10 set.at_11))

  -- such a gate of a stage, where the pairs show bits
  pub two_shown : (v : Nets) (x y : Bool) → v a.zero.0 ≡ not x → v a.one.0 ≡ x → v b.zero.0 ≡ not y → v b.one.0 ≡ y → holds v c ≡ row_value set (x ∷ y ∷ [])
  two_shown v x y a0 a1 b0 b1 =
      two_holds v
      ∙ (λ i. two_set set.at_00 set.at_01 set.at_10 set.at_11 (a0 i) (a1 i) (b0 i) (b1 i))
      ∙ set_shown set.at_00 set.at_01 set.at_10 set.at_11 x y

  -- where the first pair is NULL, and where the second is
  pub two_null_first : (v : Nets) → IsNull v a → (v b.zero.0 && v b.one.0) ≡ false → holds v c ≡ false
  two_null_first v null one =
      two_holds v
      ∙ (λ i. two_set set.at_00 set.at_01 set.at_10 set.at_11 (null.zero i) (null.one i) (v b.zero.0) (v b.one.0))
      ∙ (set_low set.at_00 set.at_01 set.at_10 set.at_11 (v b.zero.0) (v b.one.0) one).0

  pub two_null_second : (v : Nets) → (v a.zero.0 && v a.one.0) ≡ false → IsNull v b → holds v c ≡ false
  two_null_second v one null =
      two_holds v
      ∙ (λ i. two_set set.at_00 set.at_01 set.at_10 set.at_11 (v a.zero.0) (v a.one.0) (null.zero i) (null.one i))
      ∙ (set_low set.at_00 set.at_01 set.at_10 set.at_11 (v a.zero.0) (v a.one.0) one).1

  -- it has a net of the pairs on each pin
  pub two_arity : length c.ins.items ≡ arity_of c.kind
  two_arity =
      ap length is.ins
      ∙ length-map (two_pins set.at_00 set.at_01 set.at_10 set.at_11) (wire_net a b)
      ∙ eqb-true _ _ (each4 (λ p q r s. nat_eq (length (two_pins p q r s)) (arity_of (two_kind p q r s))) refl set.at_00 set.at_01 set.at_10 set.at_11)
      ∙ ap arity_of (sym is.kind)

  pub two_reads : (net : NetId) → Member net c.ins.items → Member net.0 (rail_nets (a ∷ b ∷ []))
  two_reads net m =
      let (wire, among, at) = member_of_map (wire_net a b) (two_pins set.at_00 set.at_01 set.at_10 set.at_11) net (subst (Member net) is.ins m) in
      subst (λ (n : NetId). Member n.0 (rail_nets (a ∷ b ∷ []))) at (known wire)
    where
      known : (wire : Wire) → Member (wire_net a b wire).0 (rail_nets (a ∷ b ∷ []))
      known A0 = here
      known A1 = there here
      known B0 = there (there here)
      known B1 = there (there (there here))
