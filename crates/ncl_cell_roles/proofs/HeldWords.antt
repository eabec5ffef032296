-- The words that banks hold at reset: a bank is reset to DATA in each of its bits or in none, and no bank that is
-- reset to DATA is followed by one.
use Rattle.ncl_cell_roles.proofs.Terms.{A, B, Bank, Bit, Bool, Cell, CellAt, Contains-from_Member, Contains-from_slice_get, IsBankOf, IsBitOf, IsCell, IsDataBank, IsFree, IsNetlist, List, Member, Member-from_Contains, NetId, NetlistData, None, Option, Some, [], ap, arith, both_ways, cases_Bool, cell_fits, false, false_from_ne_true, get_or, get_or-map, get_or_from_slice_get, holds_rail, if◌then◌else◌, inl, inr, is_data_bank, is_data_register, is_some, length, length-map, list_any-from_member, map, member_cases, member_from_list_any, not, pins_of, refl, same_cell, same_driver, same_net, slice_get-from_Contains, slice_get_within, subst, sym, true, value_or_low, word_held, ℕ, ◌&&◌, ◌+◌, ◌<◌, ◌||◌, ◌∙◌, ◌∷◌, ◌≡◌}
use Rattle.ncl_cell_roles.proofs.BankBits.{IsRegisterOfRail, place_of_rail, two_pins}

-- the start of a bit by whether its cells are reset to 1
abbrev start_by : Bool → Bool → Option Bool
start_by zero one = if one then Some true else if zero then Some false else None

-- whether the cell of a rail is reset to 1
abbrev side : Bool → Bool → Bool → Bool
side zero one true = one
side zero one false = zero

start-some : (zero one : Bool) → is_some (start_by zero one) ≡ (one || zero)
start-some true true = refl
start-some true false = refl
start-some false true = refl
start-some false false = refl

-- where one is, the value says which
value-says : (zero one : Bool) → (zero && one) ≡ false → (one || zero) ≡ true → (r : Bool) (word : List Bool) (j : ℕ) → get_or word j false ≡ value_or_low (start_by zero one)
    → side zero one r ≡ holds_rail (Some word) j r
value-says true true few some r word j at = absurd (both_ways true few refl)
value-says true false few some true word j at = sym at
value-says true false few some false word j at = sym (ap not at)
value-says false true few some true word j at = sym at
value-says false true few some false word j at = sym (ap not at)
value-says false false few some r word j at = absurd (both_ways false refl some)

-- where none is, neither cell is
side-none : (zero one : Bool) → (one || zero) ≡ false → (r : Bool) → side zero one r ≡ false
side-none true true none r = absurd (both_ways true none refl)
side-none true false none r = absurd (both_ways true none refl)
side-none false true none r = absurd (both_ways true none refl)
side-none false false none true = refl
side-none false false none false = refl

module _ (n : NetlistData) (is : IsNetlist n) (free : IsFree n) (b : Bank) (bank : IsBankOf n b.request.0 b) where
  module _ (bit : Bit) (x : IsBitOf n b.request.0 bit) where
    abbrev zero_data : Bool
    zero_data = is_data_register x.zero.kind

    abbrev one_data : Bool
    one_data = is_data_register x.one.kind

    -- one cell at most is reset to 1
    few : (zero_data && one_data) ≡ false
    few =
        let reads = (free.paired bit.ack.0 x.ack x.ack_at).ack x.acks.1 in
        let zeros : reads.zero ≡ x.zero = same_driver n is reads.zero x.zero reads.zero_of.0 x.zero_of.0 (same_net x.ack A reads.zero.out.0 x.zero.out.0 reads.on_a x.on_a) in
        let ones : reads.one ≡ x.one = same_driver n is reads.one x.one reads.one_of.0 x.one_of.0 (same_net x.ack B reads.one.out.0 x.one.out.0 reads.on_b x.on_b) in
        subst (λ (z : Cell). (is_data_register z.kind && is_data_register x.one.kind) ≡ false) zeros
        (subst (λ (o : Cell). (is_data_register reads.zero.kind && is_data_register o.kind) ≡ false) ones reads.few_data)

    bit-some : is_some bit.start ≡ (one_data || zero_data)
    bit-some = ap is_some x.start ∙ start-some zero_data one_data

    -- a bit that is reset to DATA makes its bank one that is
    bank_of_bit : is_some bit.start ≡ true → IsDataBank n b.request.0
    bank_of_bit some =
        elim (cases_Bool one_data) [
          | inl one ↦ (x.one, x.one_of, one)
          | inr other ↦ (x.zero, x.zero_of, sym (ap (λ q. q || zero_data) other) ∙ sym bit-some ∙ some)
        ]

    -- in such a bank the bit is one that is
    bit_of_bank : IsDataBank n b.request.0 → (one_data || zero_data) ≡ true
    bit_of_bank data_bank =
        let (r, in_r, data_is, reads) = (free.unmixed bit.ack.0 x.ack x.ack_at).ack x.acks.1 b.request.0 x.acks data_bank in
        let pins : length x.ack.ins.items + 1 ≡ length (pins_of x.ack.kind) = (cell_fits n is x.ack x.acks.0).pins in
        let three : length (pins_of x.ack.kind) ≡ 3 = ap (λ k. length (pins_of k)) x.acks.1 in
        let ins = two_pins x.ack.ins.items (record { 0 = x.zero.out.0 }) (record { 0 = x.one.out.0 }) (omega (arith, pins, three)) x.on_a x.on_b in
        let m : Member {X = NetId} (record { 0 = r.out.0 }) x.ack.ins.items = Member-from_Contains {X = NetId} x.ack.ins.items (record { 0 = r.out.0 }) reads in
        by_pin r in_r data_is (subst (Member {X = NetId} (record { 0 = r.out.0 })) ins m)
      where
        one_is : one_data ≡ true → (one_data || zero_data) ≡ true
        one_is one = ap (λ q. q || zero_data) one

        zero_is : (q : Bool) → zero_data ≡ true → (q || zero_data) ≡ true
        zero_is true zero = refl
        zero_is false zero = zero

        by_pin : (r : Cell) → IsCell n r → is_data_register r.kind ≡ true → Member {X = NetId} (record { 0 = r.out.0 }) (record { 0 = x.zero.out.0 } ∷ record { 0 = x.one.out.0 } ∷ []) → (one_data || zero_data) ≡ true
        by_pin r in_r data_is m =
            elim (member_cases (record { 0 = r.out.0 }) (record { 0 = x.zero.out.0 }) (record { 0 = x.one.out.0 } ∷ []) m) [
              | inl zeros ↦
                  let cells : r ≡ x.zero = same_driver n is r x.zero in_r x.zero_of.0 (ap (λ (z : NetId). z.0) (sym zeros)) in
                  zero_is one_data (ap (λ (z : Cell). is_data_register z.kind) (sym cells) ∙ data_is)
              | inr rest ↦ elim (member_cases (record { 0 = r.out.0 }) (record { 0 = x.one.out.0 }) [] rest) [
                | inl ones ↦
                    let cells : r ≡ x.one = same_driver n is r x.one in_r x.one_of.0 (ap (λ (z : NetId). z.0) (sym ones)) in
                    one_is (ap (λ (z : Cell). is_data_register z.kind) (sym cells) ∙ data_is)
                | inr none ↦ elim none [ ]
              ]
            ]

  -- a bank that is reset to DATA by its bits is one by its cells
  pub data_bank_of : is_data_bank b ≡ true → IsDataBank n b.request.0
  data_bank_of data_is =
      let (bit, m, some) = member_from_list_any (λ (x : Bit). is_some x.start) b.bits data_is in
      let (j, at) = slice_get-from_Contains b.bits bit (Contains-from_Member bit m) in
      bank_of_bit bit (bank.bits.each j bit at) some

  -- the cell of a rail is reset to 1 where the bank holds the rail high
  pub register-held : (j : ℕ) (r : Bool) (c : Cell) → IsRegisterOfRail n b j r c → is_data_register c.kind ≡ holds_rail (word_held b) j r
  register-held j r c of_rail =
      let x = bank.bits.each j of_rail.bit of_rail.listed in
      let own : is_data_register c.kind ≡ side (zero_data of_rail.bit x) (one_data of_rail.bit x) r = cell_is r of_rail.bit x of_rail.at in
      own ∙ elim (cases_Bool (is_data_bank b)) [
        | inl data_is ↦
            let word : List Bool = map (λ (bit : Bit). value_or_low bit.start) b.bits in
            let within : j < length b.bits = slice_get_within b.bits j of_rail.bit of_rail.listed in
            let at : get_or word j false ≡ value_or_low (start_by (zero_data of_rail.bit x) (one_data of_rail.bit x)) =
            get_or-map (λ (bit : Bit). value_or_low bit.start) b.bits j of_rail.bit false within
            ∙ ap (λ (bit : Bit). value_or_low bit.start) (get_or_from_slice_get b.bits j of_rail.bit of_rail.bit of_rail.listed)
            ∙ ap value_or_low x.start in
            value-says (zero_data of_rail.bit x) (one_data of_rail.bit x) (few of_rail.bit x) (bit_of_bank of_rail.bit x (data_bank_of data_is)) r word j at
            ∙ sym (ap (λ q. holds_rail (if q then Some word else None) j r) data_is)
        | inr plain ↦
            let none : (one_data of_rail.bit x || zero_data of_rail.bit x) ≡ false =
            false_from_ne_true _ (λ some. both_ways (is_data_bank b) plain
            (list_any-from_member (λ (y : Bit). is_some y.start) of_rail.bit (Member-from_Contains b.bits of_rail.bit (Contains-from_slice_get b.bits j of_rail.bit of_rail.listed)) (bit-some of_rail.bit x ∙ some))) in
            side-none (zero_data of_rail.bit x) (one_data of_rail.bit x) none r
            ∙ sym (ap (λ q. holds_rail (if q then Some (map (λ (bit : Bit). value_or_low bit.start) b.bits) else None) j r) plain)
      ]
    where
      cell_is : (r : Bool) (bit : Bit) (x : IsBitOf n b.request.0 bit) → CellAt n (place_of_rail bit r) c → is_data_register c.kind ≡ side (zero_data bit x) (one_data bit x) r
      cell_is true bit x at = ap (λ (z : Cell). is_data_register z.kind) (same_cell n bit.rail1.0 bit.rail1.0 c x.one refl at x.one_at)
      cell_is false bit x at = ap (λ (z : Cell). is_data_register z.kind) (same_cell n bit.rail0.0 bit.rail0.0 c x.zero refl at x.zero_at)

-- the word that a bank holds has a bit for each of its bits
pub held-wide : (b : Bank) (word : List Bool) → word_held b ≡ Some word → length word ≡ length b.bits
held-wide b word held = by (is_data_bank b) held
  where
    by : (q : Bool) → (if q then Some (map (λ (bit : Bit). value_or_low bit.start) b.bits) else None) ≡ Some word → length word ≡ length b.bits
    by true same = let e : map (λ (bit : Bit). value_or_low bit.start) b.bits ≡ word = cc in ap length (sym e) ∙ length-map b.bits (λ (bit : Bit). value_or_low bit.start)
    by false same = absurd cc

-- and it holds one where it is reset to DATA
pub held-some : (b : Bank) → is_some (word_held b) ≡ is_data_bank b
held-some b = by (is_data_bank b)
  where
    by : (q : Bool) → is_some (if q then Some (map (λ (bit : Bit). value_or_low bit.start) b.bits) else None) ≡ q
    by true = refl
    by false = refl
