-- The register cells behind the pins of an acknowledge cell.
use Rattle.ncl_cell_rules.proofs.Terms.{A, AcksBank, B, Cell, CellAt, Contains-from_slice_get, IsAck, IsCell, IsDataBehind, IsNetlist, IsOfBank, IsRegisterBehind, List, NetId, NetlistData, OnPin, ReadsData, ReadsNet, ReadsOneBit, Some, and_from, ap, arith, both_ways, cases_lt, false, get_or, inl, inr, is_data_register, length, slice_get-get_or, subst, sym, true, ℕ, ◌&&◌, ◌<◌, ◌∙◌, ◌≡◌, ◌⊎◌}
use Rattle.ncl_cell_rules.proofs.Drivers.{same_driver, same_place}
use Rattle.ncl_cell_rules.proofs.OriginLaws.{place_of}
use Rattle.ncl_cell_rules.proofs.CellTests.{same_net}
use Rattle.ncl_cell_rules.proofs.PinNumbers.{no_net, ack_on, ack_pins, on_pin_within}

module _ (n : NetlistData) (is : IsNetlist n) where
  -- one cell stands at a place
  pub same_cell : (k : ℕ) (c d : Cell) → CellAt n k c → CellAt n k d → c ≡ d
  same_cell k c d at_c at_d = let same : Some c ≡ Some d = sym at_c ∙ at_d in cc

  -- a net has one register cell behind it, of one bank
  pub same_behind : (net i j x y : ℕ) → IsRegisterBehind n net i x → IsRegisterBehind n net j y → (i ≡ j) × (x ≡ y)
  same_behind net i j x y one other =
      let places : i ≡ j = same_place n is i j one.cell other.cell one.at other.at (one.out ∙ sym other.out) in
      let cells : one.cell ≡ other.cell = same_cell j one.cell other.cell (subst (λ k. CellAt n k one.cell) places one.at) other.at in
      (places, same_net other.cell B x y (subst (λ (c : Cell). OnPin c B x) cells one.on_b) other.on_b)

  -- a register cell that drives the net on a pin is behind it
  pub behind_pin : (c r : Cell) (pin net request : ℕ) → OnPin c pin net → IsOfBank n request r → OnPin c pin r.out.0 → (k : ℕ) × IsRegisterBehind n net k request
  behind_pin c r pin net request on (in_r, register, on_b) on_r =
      let (k, at) = place_of n r in_r in
      (k, record { cell = r; at = at; out = same_net c pin r.out.0 net on_r on; register = register; on_b = on_b })

  -- the register cell behind a net is of its bank
  pub of_bank_behind : (net place request : ℕ) → (behind : IsRegisterBehind n net place request) → IsOfBank n request behind.cell
  of_bank_behind net place request behind = (Contains-from_slice_get n.cells place behind.cell behind.at, behind.register, behind.on_b)

  pub behind_within : (net place request : ℕ) → IsRegisterBehind n net place request → request < length n.nets
  behind_within net place request behind = on_pin_within n is behind.cell (of_bank_behind net place request behind).0 B request behind.on_b

  -- what is behind pin A of an acknowledge cell, by a list that is read in place of its pins, says which bank it is of
  module _ (c : Cell) (in_c : IsCell n c) (is_ack : IsAck c) (pins : List NetId) (are : pins ≡ c.ins.items) where
    pub acks_behind : (request : ℕ) → AcksBank n request c → (place : ℕ) × IsRegisterBehind n (get_or pins 0 no_net).0 place request
    acks_behind request (_, _, (r, of_bank, on_r)) = behind_pin c r A _ request (ack_on n is c in_c 0 pins are is_ack (omega arith)) of_bank on_r

    pub acks_by_behind : (place request : ℕ) → IsRegisterBehind n (get_or pins 0 no_net).0 place request → AcksBank n request c
    acks_by_behind place request behind =
        (in_c, is_ack, (behind.cell, of_bank_behind _ place request behind, subst (OnPin c A) (sym behind.out) (ack_on n is c in_c 0 pins are is_ack (omega arith))))

    -- what such a cell reads that is reset to 1
    pub data_by_behind : (pin : ℕ) → pin < 2 → IsDataBehind n (get_or pins pin no_net).0 → ReadsData n c
    data_by_behind pin few behind =
        (behind.cell, behind.is_cell, behind.resets_high, subst (ReadsNet c) (sym behind.out) (Contains-from_slice_get c.ins.items pin _ (ack_on n is c in_c pin pins are is_ack few)))

    pub data_read : ReadsData n c → IsDataBehind n (get_or pins 0 no_net).0 ⊎ IsDataBehind n (get_or pins 1 no_net).0
    data_read (r, in_r, high, (k, lt, at)) =
        let two = ack_pins n is c in_c is_ack in
        elim (cases_lt k 1) [ inl zero ↦ inl (here 0 (omega arith) (omega (arith, zero))) | inr more ↦ inr (here 1 (omega arith) (omega (arith, more, lt, two))) ]
      where
        here : (pin : ℕ) → pin < 2 → k ≡ pin → IsDataBehind n (get_or pins pin no_net).0
        here pin few same = record {
          cell = r;
          is_cell = in_r;
          out = same_net c pin r.out.0 _ (subst (λ p. OnPin c p r.out.0) same (slice_get-get_or c.ins.items k (record { 0 = r.out.0 }) lt ∙ ap Some at)) (ack_on n is c in_c pin pins are is_ack few);
          resets_high = high;
        }

  -- where it is reset to 1 such a cell is behind the net
  pub data_behind : (net place request : ℕ) (behind : IsRegisterBehind n net place request) → is_data_register behind.cell.kind ≡ true → IsDataBehind n net
  data_behind net place request behind high =
      record { cell = behind.cell; is_cell = Contains-from_slice_get n.cells place behind.cell behind.at; out = behind.out; resets_high = high }

  pub data_of_driver : (r : Cell) (net : ℕ) → IsCell n r → r.out.0 ≡ net → IsDataBehind n net → is_data_register r.kind ≡ true
  data_of_driver r net in_r out behind =
      ap (λ (x : Cell). is_data_register x.kind) (same_driver n is r behind.cell in_r behind.is_cell (out ∙ sym behind.out)) ∙ behind.resets_high

  module _ (c : Cell) (a b : ℕ) (on_a : OnPin c A a) (on_b : OnPin c B b) where
    -- two different register cells of one bank behind pins A and B are one bit
    pub one_bit_of : (i j x y : ℕ) (zero : IsRegisterBehind n a i x) (one : IsRegisterBehind n b j y) → (i ≡ j → ⊥) → x ≡ y
        → (is_data_register zero.cell.kind && is_data_register one.cell.kind) ≡ false → ReadsOneBit n c
    one_bit_of i j x y zero one differ banks few = record {
      request = x;
      zero = zero.cell;
      one = one.cell;
      zero_of = of_bank_behind a i x zero;
      one_of = subst (λ r. IsOfBank n r one.cell) (sym banks) (of_bank_behind b j y one);
      on_a = subst (OnPin c A) (sym zero.out) on_a;
      on_b = subst (OnPin c B) (sym one.out) on_b;
      differ = λ same. differ (same_place n is i j zero.cell one.cell zero.at one.at same);
      few_data = few;
    }

    -- and where the cell reads one bit there are such cells, and none others
    pub behind_a : (bit : ReadsOneBit n c) → (k : ℕ) × IsRegisterBehind n a k bit.request
    behind_a bit = behind_pin c bit.zero A a bit.request on_a bit.zero_of bit.on_a

    pub behind_b : (bit : ReadsOneBit n c) → (k : ℕ) × IsRegisterBehind n b k bit.request
    behind_b bit = behind_pin c bit.one B b bit.request on_b bit.one_of bit.on_b

    pub banks_are_one : (i j x y : ℕ) → IsRegisterBehind n a i x → IsRegisterBehind n b j y → ReadsOneBit n c → x ≡ y
    banks_are_one i j x y zero one bit =
        let (k, at_a) = behind_a bit in
        let (m, at_b) = behind_b bit in
        (same_behind a i k x bit.request zero at_a).1 ∙ sym (same_behind b j m y bit.request one at_b).1

    pub cells_differ : (i j x y : ℕ) → IsRegisterBehind n a i x → IsRegisterBehind n b j y → ReadsOneBit n c → i ≡ j → ⊥
    cells_differ i j x y zero one bit places =
        let (k, at_a) = behind_a bit in
        let (m, at_b) = behind_b bit in
        let cells : zero.cell ≡ one.cell = same_cell j zero.cell one.cell (subst (λ p. CellAt n p zero.cell) places zero.at) one.at in
        let nets : a ≡ b = sym zero.out ∙ ap (λ (x : Cell). x.out.0) cells ∙ one.out in
        bit.differ (same_net c A bit.zero.out.0 a bit.on_a on_a ∙ nets ∙ sym (same_net c B bit.one.out.0 b bit.on_b on_b))

    -- not both are reset to 1
    pub data_is_one : ReadsOneBit n c → IsDataBehind n a → IsDataBehind n b → ⊥
    data_is_one bit zero one =
        both_ways _ bit.few_data
        (and_from _ _ (data_of_driver bit.zero a bit.zero_of.0 (same_net c A bit.zero.out.0 a bit.on_a on_a) zero) (data_of_driver bit.one b bit.one_of.0 (same_net c B bit.one.out.0 b bit.on_b on_b) one))
