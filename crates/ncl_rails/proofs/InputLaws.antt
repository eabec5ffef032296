-- The values of a stage at its inputs and its cells.
use Rattle.ncl_rails.proofs.Terms.{AllPairs, Base, Bit, Bool, Cell, Contains-from_slice_get, IsNull, IsStage, List, Member, Member-append_left, Member-from_Contains, Rails, Shows, Some, StageCell, StageData, Variant, [], among, among-from_member, and_from, and_left, and_parts, and_right, ap, both_rails, eq-eqb, eqb-true, false, false_from_ne_true, here, holds, inl, inr, map, named-within, named_rails, not, not_from_true, or_cases, or_left, or_right, out_of, output_net, own_rail, parts-differ, rail_nets, rail_of, rails_within, refl, right-differ, slice_get, subst, suc, sym, there, true, val, val-output, val-rail, zero, ℕ, ◌++◌, ◌∙◌, ◌∷◌, ◌≡◌, ◌≢◌}
use Rattle.std.specs.Prelude.{nat_eq}

rail_within : (r : Rails) (inputs : List Rails) → Member r inputs → (b : Bool) → Member (rail_of r b) (rail_nets inputs)
rail_within r inputs m true = (rails_within r m).1
rail_within r inputs m false = (rails_within r m).0

-- the rail that a word names is among those that it names
named_high : (inputs : List Rails) (word : List Bool) (i : ℕ) (r : Rails) (b : Bool) → slice_get inputs i ≡ Some r → slice_get word i ≡ Some b → Member (rail_of r b) (named_rails inputs word)
named_high [] word i r b at bit = absurd cc
named_high (y ∷ rs) [] i r b at bit = absurd cc
named_high (y ∷ rs) (c ∷ word) zero r b at bit =
    let same : y ≡ r = cc in
    let value : c ≡ b = cc in
    subst (λ x. Member x (rail_of y c ∷ named_rails rs word)) (λ i. rail_of (same i) (value i)) here
named_high (y ∷ rs) (c ∷ word) (suc i) r b at bit = there (named_high rs word i r b at bit)

-- the rails of a bit differ, and so the other rail is not named
other_rail : (y : Rails) (ys : List ℕ) → AllPairs (λ x y. x ≢ y) (y.zero.0 ∷ y.one.0 ∷ ys) → (b : Bool) → rail_of y (not b) ≡ rail_of y b → ⊥
other_rail y ys differ true same = parts-differ y.zero.0 {xs = y.zero.0 ∷ []} (y.one.0 ∷ ys) differ here (subst (λ x. Member x (y.one.0 ∷ ys)) (sym same) here)
other_rail y ys differ false same = parts-differ y.zero.0 {xs = y.zero.0 ∷ []} (y.one.0 ∷ ys) differ here (subst (λ x. Member x (y.one.0 ∷ ys)) same here)

named_low : (inputs : List Rails) (ys : List ℕ) → AllPairs (λ x y. x ≢ y) (rail_nets inputs ++ ys) → (word : List Bool) (i : ℕ) (r : Rails) (b : Bool) → slice_get inputs i ≡ Some r → slice_get word i ≡ Some b → among (named_rails inputs word) (rail_of r (not b)) ≡ true → ⊥
named_low [] ys differ word i r b at bit high = absurd cc
named_low (y ∷ rs) ys differ [] i r b at bit high = absurd cc
named_low (y ∷ rs) ys differ (c ∷ word) zero r b at bit high =
    let same : y ≡ r = cc in
    let value : c ≡ b = cc in
    let high' : among (named_rails (y ∷ rs) (c ∷ word)) (rail_of y (not c)) ≡ true = subst (λ x. among (named_rails (y ∷ rs) (c ∷ word)) x ≡ true) (λ i. rail_of (sym same i) (not (sym value i))) high in
    elim (or_cases (nat_eq (rail_of y (not c)) (rail_of y c)) _ high') [
      | inl first ↦ other_rail y (rail_nets rs ++ ys) differ c (eqb-true (rail_of y (not c)) (rail_of y c) first)
      | inr rest ↦ parts-differ (rail_of y (not c)) {xs = y.zero.0 ∷ y.one.0 ∷ []} (rail_nets rs ++ ys) differ (own_rail y (not c)) (Member-append_left (rail_of y (not c)) ys (named-within rs word (rail_of y (not c)) rest))
    ]
named_low (y ∷ rs) ys differ (c ∷ word) (suc i) r b at bit high =
    let m : Member r rs = Member-from_Contains rs r (Contains-from_slice_get rs i r at) in
    elim (or_cases (nat_eq (rail_of r (not b)) (rail_of y c)) _ high) [
      | inl first ↦
          parts-differ (rail_of y c) {xs = y.zero.0 ∷ y.one.0 ∷ []} (rail_nets rs ++ ys) differ (own_rail y c)
          (subst (λ x. Member x (rail_nets rs ++ ys)) (eqb-true (rail_of r (not b)) (rail_of y c) first) (Member-append_left (rail_of r (not b)) ys (rail_within r rs m (not b))))
      | inr rest ↦ named_low rs ys (right-differ (y.zero.0 ∷ y.one.0 ∷ []) (rail_nets rs ++ ys) differ) word i r b at bit rest
    ]

module _ (s : StageData) (is : IsStage s) (word : List Bool) where
  -- under Base an input shows its bit
  pub input_shown : (i : ℕ) (r : Rails) (b : Bool) → slice_get s.inputs i ≡ Some r → slice_get word i ≡ Some b → Shows (val s word Base) r b
  input_shown i r b at bit =
      let m : Member r s.inputs = Member-from_Contains s.inputs r (Contains-from_slice_get s.inputs i r at) in
      record {
        high = val-rail s is word Base (rail_of r b) (rail_within r s.inputs m b) ∙ and_from _ _ (among-from_member (rail_of r b) (named_high s.inputs word i r b at bit)) refl;
        low = val-rail s is word Base (rail_of r (not b)) (rail_within r s.inputs m (not b)) ∙ and_left _ _ (false_from_ne_true _ (named_low s.inputs (map out_of s.cells) is.nets_differ word i r b at bit));
      }

  -- with its rails kept low an input is NULL
  pub input_null : (i : ℕ) (r : Rails) → slice_get s.inputs i ≡ Some r → IsNull (val s word (Bit i)) r
  input_null i r at =
      let m : Member r s.inputs = Member-from_Contains s.inputs r (Contains-from_slice_get s.inputs i r at) in
      record {
        zero = val-rail s is word (Bit i) r.zero.0 (rails_within r m).0 ∙ and_right _ _ (not_from_true _ (ap (λ o. both_rails o r.zero.0) at ∙ or_left _ _ (eq-eqb r.zero.0 r.zero.0 refl)));
        one = val-rail s is word (Bit i) r.one.0 (rails_within r m).1 ∙ and_right _ _ (not_from_true _ (ap (λ o. both_rails o r.one.0) at ∙ or_right _ _ (eq-eqb r.one.0 r.one.0 refl)));
      }

  -- a cell whose output is kept low is low
  pub cell_low : (g : ℕ) (c : StageCell) → slice_get s.cells g ≡ Some c → val s word (Cell g) (out_of c) ≡ false
  cell_low g c at =
      let m : Member c s.cells = Member-from_Contains s.cells c (Contains-from_slice_get s.cells g c at) in
      val-output s is word (Cell g) c m ∙ and_left _ _ (not_from_true _ (ap (λ o. output_net o (out_of c)) at ∙ eq-eqb (out_of c) (out_of c) refl))

  -- Base obeys all cells
  pub base_obeys : (c : StageCell) → Member c s.cells → val s word Base (out_of c) ≡ holds (val s word Base) c
  base_obeys c m = val-output s is word Base c m

  -- and a variant is supported on all
  pub variant_supported : (variant : Variant) (c : StageCell) → Member c s.cells → val s word variant (out_of c) ≡ true → holds (val s word variant) c ≡ true
  variant_supported variant c m high = (and_parts _ _ (sym (val-output s is word variant c m) ∙ high)).1
