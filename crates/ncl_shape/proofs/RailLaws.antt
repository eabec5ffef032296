-- The rails of a bank: two for each bit, of which each of its register cells drives one, and they differ.
use Rattle.ncl_shape.proofs.Terms.{A, All-cons, All-from_members, AllPairs, AllPairs-cons, AllZip, AreBitsOf, AreRailsOf, B, Bit, Bool, Cell, Contains, Contains-from_Member, IsBank, IsBitOf, IsFree, IsNetlist, IsOfBank, List, Member, Member-from_Contains, NetId, NetlistData, OnPin, Rails, [], ack_of_register, ack_pin_is_one, ap, arith, false, here, inl, inr, length, pairs-head, pairs-tail, rail_nets, rail_of, refl, same_net, slice_get-from_Contains, subst, sym, there, true, ℕ, ◌*◌, ◌<◌, ◌∙◌, ◌∷◌, ◌≡◌, ◌≢◌, ◌≤◌, ◌⊎◌}
use Rattle.ncl_shape.proofs.ShapeLaws.{same_cell}
use Rattle.ncl_shape.proofs.ZippedLists.{AllZip-find, AllZip-found}

-- a net is one of two rails
abbrev pub IsRail : Rails → ℕ → Type 0
IsRail r net = (r.zero.0 ≡ net) ⊎ (r.one.0 ≡ net)

-- bits have two rails each
pub rails-length : (bits : List Rails) → length (rail_nets bits) ≡ 2 * length bits
rails-length [] = refl
rails-length (r ∷ rs) = let rest = rails-length rs in omega (arith, rest)

-- both rails of each bit are among the nets of the rails, and no others
pub rail_zero : (r : Rails) {rails : List Rails} → Member r rails → Member r.zero.0 (rail_nets rails)
rail_zero r (here {xs = rails}) = here
rail_zero r (there {y = s} {xs = rails} m) = there (there (rail_zero r m))

pub rail_one : (r : Rails) {rails : List Rails} → Member r rails → Member r.one.0 (rail_nets rails)
rail_one r (here {xs = rails}) = there here
rail_one r (there {y = s} {xs = rails} m) = there (there (rail_one r m))

pub rails_within : (r : Rails) {rails : List Rails} → Member r rails → Member r.zero.0 (rail_nets rails) × Member r.one.0 (rail_nets rails)
rails_within r m = (rail_zero r m, rail_one r m)

-- and the rail of each value is one of the two
pub own_rail : (r : Rails) (value : Bool) → Member (rail_of r value) (r.zero.0 ∷ r.one.0 ∷ [])
own_rail r true = there here
own_rail r false = here

pub rail_found : (rails : List Rails) (net : ℕ) → Member net (rail_nets rails) → (r : Rails) × Member r rails × IsRail r net
rail_found [] net m = elim m [ ]
rail_found (r ∷ rails) net here = (r, here, inl refl)
rail_found (r ∷ rails) net (there here) = (r, here, inr refl)
rail_found (r ∷ rails) net (there (there m)) = let (s, in_rails, is) = rail_found rails net m in (s, there in_rails, is)

module _ (n : NetlistData) (is : IsNetlist n) (free : IsFree n) (bank : ℕ) where
  -- a bank has a bit
  pub some_bit : (bits : List Bit) → IsBank n bank → AreBitsOf n bank bits → 1 ≤ length bits
  some_bit bits (c, of_bank) are =
      let (k, d, at, acks, pin) = ack_of_register n is free c bank of_bank in
      let (bit, (j, lt, at_j), place) = are.every k d at acks in
      omega (arith, lt)

  module _ (bits : List Bit) (are : AreBitsOf n bank bits) (rails : List Rails) (of_bits : AllZip (AreRailsOf n) bits rails) where
    bit_is : (bit : Bit) → Member bit bits → IsBitOf n bank bit
    bit_is bit m = let (k, at) = slice_get-from_Contains bits bit (Contains-from_Member bit m) in are.each k bit at

    -- each register cell of the bank drives a rail
    pub rail_of_register : (c : Cell) → IsOfBank n bank c → Contains (rail_nets rails) c.out.0
    rail_of_register c of_bank =
        let (k, d, at_d, acks, pin) = ack_of_register n is free c bank of_bank in
        let (bit, in_bits, place) = are.every k d at_d acks in
        let m = Member-from_Contains bits bit in_bits in
        let is_bit = bit_is bit m in
        let (r, in_rails, of_bit) = AllZip-find (AreRailsOf n) bits rails of_bits bit m in
        let cell : is_bit.ack ≡ d = same_cell n bit.ack.0 k is_bit.ack d place is_bit.ack_at at_d in
        elim pin [
          | inl on_a ↦
              let net : is_bit.zero.out.0 ≡ c.out.0 = same_net d A is_bit.zero.out.0 c.out.0 (subst (λ (z : Cell). OnPin z A is_bit.zero.out.0) cell is_bit.on_a) on_a in
              let rail : is_bit.zero.out.0 ≡ r.zero.0 = ap (λ (x : NetId). x.0) (of_bit.zero is_bit.zero is_bit.zero_at) in
              subst (Contains (rail_nets rails)) (sym rail ∙ net) (Contains-from_Member r.zero.0 (rail_zero r in_rails))
          | inr on_b ↦
              let net : is_bit.one.out.0 ≡ c.out.0 = same_net d B is_bit.one.out.0 c.out.0 (subst (λ (z : Cell). OnPin z B is_bit.one.out.0) cell is_bit.on_b) on_b in
              let rail : is_bit.one.out.0 ≡ r.one.0 = ap (λ (x : NetId). x.0) (of_bit.one is_bit.one is_bit.one_at) in
              subst (Contains (rail_nets rails)) (sym rail ∙ net) (Contains-from_Member r.one.0 (rail_one r in_rails))
        ]

    -- and each rail is driven by one
    pub register_of_rail : (net : ℕ) → Contains (rail_nets rails) net → (c : Cell) × IsOfBank n bank c × (c.out.0 ≡ net)
    register_of_rail net among =
        let (r, in_rails, rail) = rail_found rails net (Member-from_Contains (rail_nets rails) net among) in
        let (bit, in_bits, of_bit) = AllZip-found (AreRailsOf n) bits rails of_bits r in_rails in
        let is_bit = bit_is bit in_bits in
        elim rail [
          | inl zero_is ↦ (is_bit.zero, is_bit.zero_of, ap (λ (x : NetId). x.0) (of_bit.zero is_bit.zero is_bit.zero_at) ∙ zero_is)
          | inr one_is ↦ (is_bit.one, is_bit.one_of, ap (λ (x : NetId). x.0) (of_bit.one is_bit.one is_bit.one_at) ∙ one_is)
        ]

  -- a rail of a bit is driven by a register cell of the bank, and is on a pin of the bit's acknowledge cell
  rail_pin : (bit : Bit) (r : Rails) (net : ℕ) → (is_bit : IsBitOf n bank bit) → AreRailsOf n bit r → IsRail r net → (c : Cell) × (pin : ℕ) × IsOfBank n bank c × OnPin is_bit.ack pin c.out.0 × (c.out.0 ≡ net)
  rail_pin bit r net is_bit of_bit (inl e) = (is_bit.zero, A, is_bit.zero_of, is_bit.on_a, ap (λ (x : NetId). x.0) (of_bit.zero is_bit.zero is_bit.zero_at) ∙ e)
  rail_pin bit r net is_bit of_bit (inr e) = (is_bit.one, B, is_bit.one_of, is_bit.on_b, ap (λ (x : NetId). x.0) (of_bit.one is_bit.one is_bit.one_at) ∙ e)

  -- the rails of two bits differ
  apart : (b c : Bit) (r s : Rails) (net : ℕ) → b.ack.0 < c.ack.0 → IsBitOf n bank b → IsBitOf n bank c → AreRailsOf n b r → AreRailsOf n c s → IsRail r net → IsRail s net → ⊥
  apart b c r s net less is_b is_c of_b of_c at_r at_s =
      let (u, x, of_u, on_u, out_u) = rail_pin b r net is_b of_b at_r in
      let (w, y, of_w, on_w, out_w) = rail_pin c s net is_c of_c at_s in
      let same = ack_pin_is_one n is free u is_b.ack is_c.ack b.ack.0 c.ack.0 x y of_u.0 of_u.1 is_b.ack_at is_b.acks.1 is_c.ack_at is_c.acks.1 on_u (subst (OnPin is_c.ack y) (out_w ∙ sym out_u) on_w) in
      omega (arith, less, same.0)

  -- the two rails of a bit differ
  two_rails : (b : Bit) (r : Rails) → IsBitOf n bank b → AreRailsOf n b r → r.zero.0 ≢ r.one.0
  two_rails b r is_b of_b same =
      let zeros : is_b.zero.out.0 ≡ r.zero.0 = ap (λ (x : NetId). x.0) (of_b.zero is_b.zero is_b.zero_at) in
      let ones : is_b.one.out.0 ≡ r.one.0 = ap (λ (x : NetId). x.0) (of_b.one is_b.one is_b.one_at) in
      let on_both : OnPin is_b.ack B is_b.zero.out.0 = subst (OnPin is_b.ack B) (ones ∙ sym same ∙ sym zeros) is_b.on_b in
      let pins = ack_pin_is_one n is free is_b.zero is_b.ack is_b.ack b.ack.0 b.ack.0 A B is_b.zero_of.0 is_b.zero_of.1 is_b.ack_at is_b.acks.1 is_b.ack_at is_b.acks.1 is_b.on_a on_both in
      omega (arith, pins.1)

  -- so all rails of the bank differ
  pub rails_differ : (bits : List Bit) (rails : List Rails) → ((bit : Bit) → Member bit bits → IsBitOf n bank bit) → AllPairs (λ (x y : Bit). x.ack.0 < y.ack.0) bits → AllZip (AreRailsOf n) bits rails → AllPairs (λ (x y : ℕ). x ≢ y) (rail_nets rails)
  rails_differ [] [] are up of_bits = λ i j d less lt. absurd (omega arith)
  rails_differ [] (r ∷ rails) are up of_bits = absurd of_bits
  rails_differ (b ∷ bits) [] are up of_bits = absurd of_bits
  rails_differ (b ∷ bits) (r ∷ rails) are up of_bits =
      let rest = rails_differ bits rails (λ bit m. are bit (there m)) (pairs-tail (λ (x y : Bit). x.ack.0 < y.ack.0) b bits up) of_bits.1 in
      AllPairs-cons (λ (x y : ℕ). x ≢ y) r.zero.0 (r.one.0 ∷ rail_nets rails)
      (All-cons (λ y. r.zero.0 ≢ y) r.one.0 (rail_nets rails) (two_rails b r (are b here) of_bits.0) (All-from_members (λ y. r.zero.0 ≢ y) (rail_nets rails) (λ y m same. later y m (inl same))))
      (AllPairs-cons (λ (x y : ℕ). x ≢ y) r.one.0 (rail_nets rails) (All-from_members (λ y. r.one.0 ≢ y) (rail_nets rails) (λ y m same. later y m (inr same))) rest)
    where
      later : (net : ℕ) → Member net (rail_nets rails) → IsRail r net → ⊥
      later net m at_r =
          let (s, in_rails, at_s) = rail_found rails net m in
          let (c, in_bits, of_c) = AllZip-found (AreRailsOf n) bits rails of_bits.1 s in_rails in
          apart b c r s net (pairs-head (λ (x y : Bit). x.ack.0 < y.ack.0) b bits up c in_bits) (are b here) (are c (there in_bits)) of_bits.0 of_c at_r at_s
