-- A stage behind another shows an orphan where the back one does, and where the follower of one of a bit's rails is an orphan the
-- back one doesn't wait for that bit.
use Rattle.ncl_reaching.proofs.Terms.{Base, Bit, Bool, CanFollow, Cell, Contains-from_slice_get, Incomplete, IsOneRailed, List, Member, Member-from_Contains, Orphan, Rails, Some, StageCell, StageData, all_data, among, among-from_member, ap, at_map, bit_at, both_rails, both_ways, by_net, eqb-true, false, false_from_ne_true, followed, followers, gate-listed, get_or, holds_at, kept_low, length, map, named-has, named-only, named_rails, nat_eq, ne_eqb, nets_of, no_rails, not, or_from, out_of, output_net, rail-listed, rail-no_output, rail-within, rail_at, refl, shows, slice_get, slice_get-append_left, slice_get-append_right, slice_get-get_or, subst, sym, true, val, ℕ, ◌&&◌, ◌++◌, ◌+◌, ◌<◌, ◌||◌, ◌∙◌, ◌≡◌}
use Rattle.ncl_reaching.proofs.Following.{made, made-wide, place_of, follower-at, base-values, rail-value, data-followed}

swap : (a b : Bool) → (a && b) ≡ (b && a)
swap true true = refl
swap true false = refl
swap false true = refl
swap false false = refl

-- the one rail that a word names of a bit, and both
zero-alone : (zero one named : Bool) → (one ≡ true → named ≡ false) → (not zero && named) ≡ (named && not (zero || one))
zero-alone true one true h = refl
zero-alone true one false h = refl
zero-alone false true true h = absurd (both_ways true (h refl) refl)
zero-alone false true false h = refl
zero-alone false false true h = refl
zero-alone false false false h = refl

one-alone : (zero one named : Bool) → (zero ≡ true → named ≡ false) → (not one && named) ≡ (named && not (zero || one))
one-alone true one true h = absurd (both_ways true (h refl) refl)
one-alone true true false h = refl
one-alone true false false h = refl
one-alone false true true h = refl
one-alone false true false h = refl
one-alone false false true h = refl
one-alone false false false h = refl

or-false : (b : Bool) → (b || false) ≡ b
or-false true = refl
or-false false = refl

module _ (front back : StageData) (can : CanFollow front back) (word : List Bool) (wide : length word ≡ length front.inputs) (one : IsOneRailed front word) where
  abbrev whole : StageData
  whole = followed front back

  abbrev w' : List Bool
  w' = made front back can word wide one

  -- ---- without a gate of the back stage

  module _ (place : ℕ) (g : StageCell) (at : slice_get back.cells place ≡ Some g) where
    abbrev place_c : ℕ
    place_c = length front.cells + (length (followers front.outputs back.inputs) + place)

    at_c : slice_get whole.cells place_c ≡ Some (by_net g)
    at_c =
        slice_get-append_right front.cells (followers front.outputs back.inputs ++ map by_net back.cells) (length (followers front.outputs back.inputs) + place) (by_net g)
        (slice_get-append_right (followers front.outputs back.inputs) (map by_net back.cells) place (by_net g) (at_map by_net back.cells place g at))

    g_in : Member g back.cells
    g_in = Member-from_Contains back.cells g (Contains-from_slice_get back.cells place g at)

    low_c : (net : ℕ) → kept_low whole (Cell place_c) net ≡ nat_eq net (out_of g)
    low_c net = ap (λ o. output_net o net) at_c

    low_back : (net : ℕ) → kept_low back (Cell place) net ≡ nat_eq net (out_of g)
    low_back net = ap (λ o. output_net o net) at

    same_low : (net : ℕ) → kept_low whole (Cell place_c) net ≡ kept_low back (Cell place) net
    same_low net = low_c net ∙ sym (low_back net)

    pub shows-orphan : shows whole word (Orphan place_c) ≡ shows back w' (Orphan place)
    shows-orphan =
        ap (holds_at (λ (x : StageCell). val whole word Base x.out.0 && all_data whole (val whole word (Cell place_c)))) at_c
        ∙ (λ i. base-values front back can word wide one (out_of g) (gate-listed back g g_in) i && without i)
        ∙ sym (ap (holds_at (λ (x : StageCell). val back w' Base x.out.0 && all_data back (val back w' (Cell place)))) at)
      where
        without : all_data whole (val whole word (Cell place_c)) ≡ all_data back (val back w' (Cell place))
        without = data-followed front back can word wide one (Cell place_c)
            (λ net m. low_c net ∙ ne_eqb net (out_of g) (λ e. can.apart net m (subst (λ x. Member x (nets_of back.inputs back.cells)) (sym e) (gate-listed back g g_in))))
            (Cell place)
            (λ net m. ap (λ low. not low && among (named_rails back.inputs w') net) (same_low net) ∙ swap (not (kept_low back (Cell place) net)) (among (named_rails back.inputs w') net))
            (λ h m. same_low (out_of h))

  -- ---- without the follower of a rail

  module _ (bit : ℕ) (lt : bit < length back.inputs) where
    abbrev rails : Rails
    rails = get_or back.inputs bit no_rails

    at_bit : slice_get back.inputs bit ≡ Some rails
    at_bit = slice_get-get_or back.inputs bit no_rails lt

    low_bit : (net : ℕ) → kept_low back (Bit bit) net ≡ (nat_eq net rails.zero.0 || nat_eq net rails.one.0)
    low_bit net = ap (λ o. both_rails o net) at_bit

    abbrev named : ℕ → Bool
    named net = among (named_rails back.inputs w') net

    only : (r q : Bool) → named (rail_at back.inputs bit r) ≡ true → named (rail_at back.inputs bit q) ≡ true → r ≡ q
    only r q high also =
        named-only back.inputs (map out_of back.cells) can.is_back.nets_differ w' (made-wide front back can word wide one) bit r lt high
        ∙ sym (named-only back.inputs (map out_of back.cells) can.is_back.nets_differ w' (made-wide front back can word wide one) bit q lt also)

    -- where a rail is named, keeping it low keeps all low that keeping both low does
    rails_alone : (r : Bool) → named (rail_at back.inputs bit r) ≡ true → (net : ℕ) → (not (nat_eq net (rail_at back.inputs bit r)) && named net) ≡ (named net && not (nat_eq net rails.zero.0 || nat_eq net rails.one.0))
    rails_alone false high net = zero-alone (nat_eq net rails.zero.0) (nat_eq net rails.one.0) (named net) (λ e.
        false_from_ne_true _ (λ also. both_ways false refl (only false true high (subst (λ x. named x ≡ true) (eqb-true net rails.one.0 e) also))))
    rails_alone true high net = one-alone (nat_eq net rails.zero.0) (nat_eq net rails.one.0) (named net) (λ e.
        false_from_ne_true _ (λ also. both_ways true (only true false high (subst (λ x. named x ≡ true) (eqb-true net rails.zero.0 e) also)) refl))

    module _ (r : Bool) where
      abbrev place_r : ℕ
      place_r = length front.cells + place_of bit r

      -- the follower of the rail
      joint : (g : StageCell) × (slice_get whole.cells place_r ≡ Some g) × (out_of g ≡ rail_at back.inputs bit r)
      joint =
          let (g, at, is) = follower-at front.outputs back.inputs can.many bit r lt in (
            g,
            slice_get-append_right front.cells (followers front.outputs back.inputs ++ map by_net back.cells) (place_of bit r) g
                (slice_get-append_left (followers front.outputs back.inputs) (map by_net back.cells) (place_of bit r) g at),
            is.out,
          )

      low_r : (net : ℕ) → kept_low whole (Cell place_r) net ≡ nat_eq net (rail_at back.inputs bit r)
      low_r net = ap (λ o. output_net o net) joint.1 ∙ ap (nat_eq net) joint.2

      shown-at : shows whole word (Orphan place_r) ≡ (named (rail_at back.inputs bit r) && all_data whole (val whole word (Cell place_r)))
      shown-at =
          ap (holds_at (λ (x : StageCell). val whole word Base x.out.0 && all_data whole (val whole word (Cell place_r)))) joint.1
          ∙ ap (λ x. val whole word Base x && all_data whole (val whole word (Cell place_r))) joint.2
          ∙ ap (λ b. b && all_data whole (val whole word (Cell place_r))) (rail-value front back can word wide one bit r lt)

      no_output : (g : StageCell) → Member g back.cells → (q : Bool) → nat_eq (out_of g) (rail_at back.inputs bit q) ≡ false
      no_output g m q = ne_eqb (out_of g) (rail_at back.inputs bit q) (λ e. rail-no_output back can.is_back (rail_at back.inputs bit q) (rail-within back.inputs bit q lt) g m e)

      -- where the rail is named it is an orphan exactly where the bit isn't waited for
      shown-named : named (rail_at back.inputs bit r) ≡ true → shows whole word (Orphan place_r) ≡ shows back w' (Incomplete bit)
      shown-named high =
          shown-at ∙ (λ i. high i && without i)
          ∙ sym (ap (holds_at (λ (x : Rails). all_data back (val back w' (Bit bit)))) at_bit)
        where
          without : all_data whole (val whole word (Cell place_r)) ≡ all_data back (val back w' (Bit bit))
          without = data-followed front back can word wide one (Cell place_r)
              (λ net m. low_r net ∙ ne_eqb net (rail_at back.inputs bit r) (λ e. can.apart net m (subst (λ x. Member x (nets_of back.inputs back.cells)) (sym e) (rail-listed back bit r lt))))
              (Bit bit)
              (λ net m. ap (λ low. not low && named net) (low_r net) ∙ rails_alone r high net ∙ sym (ap (λ low. named net && not low) (low_bit net)))
              (λ g m. low_r (out_of g) ∙ no_output g m r ∙ sym (low_bit (out_of g) ∙ or_from _ _ (no_output g m false) (no_output g m true)))

      shown-other : named (rail_at back.inputs bit r) ≡ false → shows whole word (Orphan place_r) ≡ false
      shown-other low = shown-at ∙ ap (λ b. b && all_data whole (val whole word (Cell place_r))) low

    -- the bit isn't waited for exactly where the follower of one of its rails is an orphan
    pub shows-incomplete : (shows whole word (Orphan (place_r false)) || shows whole word (Orphan (place_r true))) ≡ shows back w' (Incomplete bit)
    shows-incomplete = by (bit_at w' bit) (among-from_member _ (named-has back.inputs w' (made-wide front back can word wide one) bit lt))
      where
        by : (q : Bool) → named (rail_at back.inputs bit q) ≡ true → (shows whole word (Orphan (place_r false)) || shows whole word (Orphan (place_r true))) ≡ shows back w' (Incomplete bit)
        by false high =
            (λ i. shown-named false high i || shown-other true (false_from_ne_true _ (λ also. both_ways false refl (only false true high also))) i)
            ∙ or-false (shows back w' (Incomplete bit))
        by true high =
            (λ i. shown-other false (false_from_ne_true _ (λ also. both_ways true (only true false high also) refl)) i || shown-named true high i)
