-- Wires are a sound stage.
use Rattle.ncl_insensitivity.proofs.Terms.{Base, Bit, Bool, BothRails, Contains-from_Member, Contains-from_slice_get, Incomplete, IsSound, IsStage, List, Member-from_Contains, NoRail, None, Option, Orphan, Rails, Some, StageCell, StageData, StageFault, [], all_data, among, and_parts, and_right, ap, bit_at, both_rails, both_ways, eq-eqb, false, false_from_ne_true, get_or, get_or_from_slice_get, has_data, holds_at, is_illegal, kept_low, length, list_all-member, map, named-from_high, named-has, named-within_values, named_rails, nat_eq, no_rails, not, not_from_true, one_named, or_from, or_left, or_right, out_of, rail_of, rails_within, refl, shows, slice_get, slice_get_within, subst, sym, true, val, val-rail, ℕ, ◌&&◌, ◌<◌, ◌∙◌, ◌≡◌}
use Rattle.ncl_faults.specs.declared.variant.Variant.TheVariants.{Cell}
use Rattle.ncl_base.specs.Members.{Member}

pub wires_sound : (s : StageData) → IsStage s → s.cells ≡ [] → s.outputs ≡ s.inputs → IsSound s
wires_sound s is none same fault word wide = shown fault
  where
    member_place : (j : ℕ) (r : Rails) → slice_get s.inputs j ≡ Some r → Member r s.inputs
    member_place j r at = Member-from_Contains s.inputs r (Contains-from_slice_get s.inputs j r at)

    kept : (j : ℕ) (r : Rails) → slice_get s.inputs j ≡ Some r → has_data (val s word (Bit j)) r ≡ false
    kept j r at =
        let (zero_in, one_in) = rails_within r (member_place j r at) in
        let zero_kept : kept_low s (Bit j) r.zero.0 ≡ true =
        ap (λ o. both_rails o r.zero.0) at ∙ or_left _ (nat_eq r.zero.0 r.one.0) (eq-eqb r.zero.0 r.zero.0 refl) in
        let one_kept : kept_low s (Bit j) r.one.0 ≡ true =
        ap (λ o. both_rails o r.one.0) at ∙ or_right (nat_eq r.one.0 r.zero.0) _ (eq-eqb r.one.0 r.one.0 refl) in
        or_from _ _
        (val-rail s is word (Bit j) r.zero.0 zero_in ∙ and_right (among (named_rails s.inputs word) r.zero.0) _ (not_from_true _ zero_kept))
        (val-rail s is word (Bit j) r.one.0 one_in ∙ and_right (among (named_rails s.inputs word) r.one.0) _ (not_from_true _ one_kept))

    at_output : (test : Rails → Bool) → ((j : ℕ) (r : Rails) → slice_get s.inputs j ≡ Some r → test r ≡ false) → (bits : List Rails)
        → bits ≡ s.inputs → (j : ℕ) → holds_at test (slice_get bits j) ≡ false
    at_output test fails bits e j = go (slice_get bits j) refl
      where
        go : (o : Option Rails) → slice_get bits j ≡ o → holds_at test o ≡ false
        go None at = refl
        go (Some r) at = fails j r (ap (λ xs. slice_get xs j) (sym e) ∙ at)

    shown : (fault : StageFault) → shows s word fault ≡ false
    shown (BothRails j) = at_output (is_illegal (val s word Base)) (λ j r at.
        false_from_ne_true _ (λ both.
        let (zero_high, one_high) = and_parts (val s word Base r.zero.0) (val s word Base r.one.0) both in
        let m = member_place j r at in
        let (zero_in, one_in) = rails_within r m in
        one_named s.inputs (map out_of s.cells) is.nets_differ word r m (named-from_high s is word r.zero.0 zero_in zero_high) (named-from_high s is word r.one.0 one_in one_high))) s.outputs same j
    shown (NoRail j) = at_output (λ r. not (has_data (val s word Base) r)) (λ j r at.
        let lt : j < length s.inputs = slice_get_within s.inputs j r at in
        let same_rails : get_or s.inputs j no_rails ≡ r = get_or_from_slice_get s.inputs j r no_rails at in
        let high = named-within_values s word _ (Contains-from_Member _ (named-has s.inputs word wide j lt)) in
        not_from_true _ (own r (bit_at word j) (subst (λ x. val s word Base (rail_of x (bit_at word j)) ≡ true) same_rails high))) s.outputs same j
      where
        own : (r : Rails) (q : Bool) → val s word Base (rail_of r q) ≡ true → has_data (val s word Base) r ≡ true
        own r true high = or_right (val s word Base r.zero.0) _ high
        own r false high = or_left _ (val s word Base r.one.0) high
    shown (Incomplete b) = go (slice_get s.inputs b) refl
      where
        go : (o : Option Rails) → slice_get s.inputs b ≡ o → holds_at (λ (r : Rails). all_data s (val s word (Bit b))) o ≡ false
        go None at = refl
        go (Some r) at =
            false_from_ne_true _ (λ all. both_ways _ (kept b r at) (list_all-member (has_data (val s word (Bit b))) s.outputs all r (subst (Member r) (sym same) (member_place b r at))))
    shown (Orphan c) = ap (λ cells. holds_at (λ (g : StageCell). val s word Base g.out.0 && all_data s (val s word (Cell c))) (slice_get cells c)) none
