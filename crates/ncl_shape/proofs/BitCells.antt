-- The register cells of a bit of a bank, as they are read: they are there, and have the rails of the bit on Z and its
-- inputs on A.
use Rattle.ncl_shape.proofs.Terms.{A, AreBitsOf, AreInputsOf, AreOnSide, AreRailsOf, Bit, Cell, CellAt, Contains-from_slice_get, Driven, IsBitOf, IsNetlist, IsRegister, List, NetId, NetlistData, None, OnPin, Read, Side, Some, ap, arith, cell_read, get_or, length, net_on, no_net, on_pin_of, refl, register_pins, slice_get, slice_get_within, subst, ℕ, ◌<◌, ◌≡◌}
use Rattle.ncl_shape.proofs.ShapeLaws.{same_cell}

-- a bit that is none
abbrev pub no_bit : Bit
no_bit = record { rail0 = record { 0 = 0 }; rail1 = record { 0 = 0 }; ack = record { 0 = 0 }; start = None }

module _ (n : NetlistData) (bank : ℕ) (bits : List Bit) (are : AreBitsOf n bank bits) (k : ℕ) (bit : Bit) (at_bit : slice_get bits k ≡ Some bit) (cells : List Cell) (are_cells : cells ≡ n.cells) where
  is_bit : IsBitOf n bank bit
  is_bit = are.each k bit at_bit

  pub zero_within : bit.rail0.0 < length cells
  zero_within =
      let within = slice_get_within n.cells bit.rail0.0 is_bit.zero is_bit.zero_at in
      omega (arith, within, ap length are_cells)

  pub one_within : bit.rail1.0 < length cells
  one_within =
      let within = slice_get_within n.cells bit.rail1.0 is_bit.one is_bit.one_at in
      omega (arith, within, ap length are_cells)

  module _ (zero one : Cell) (zero_read : zero ≡ get_or cells bit.rail0.0 zero) (one_read : one ≡ get_or cells bit.rail1.0 one) where
    zero_at : CellAt n bit.rail0.0 zero
    zero_at = cell_read n cells bit.rail0.0 zero are_cells zero_within zero_read

    one_at : CellAt n bit.rail1.0 one
    one_at = cell_read n cells bit.rail1.0 one are_cells one_within one_read

    -- their outputs are the rails of the bit
    pub rails_read : AreRailsOf n bit (record { zero = zero.out; one = one.out })
    rails_read = record {
      zero = λ c at. ap (λ (x : Cell). x.out) (same_cell n bit.rail0.0 bit.rail0.0 c zero (λ i. bit.rail0.0) at zero_at);
      one = λ c at. ap (λ (x : Cell). x.out) (same_cell n bit.rail1.0 bit.rail1.0 c one (λ i. bit.rail1.0) at one_at);
    }

    module _ (is : IsNetlist n) where
      zero_register : IsRegister zero
      zero_register = subst IsRegister (same_cell n bit.rail0.0 bit.rail0.0 is_bit.zero zero (λ i. bit.rail0.0) is_bit.zero_at zero_at) is_bit.zero_of.1

      one_register : IsRegister one
      one_register = subst IsRegister (same_cell n bit.rail1.0 bit.rail1.0 is_bit.one one (λ i. bit.rail1.0) is_bit.one_at one_at) is_bit.one_of.1

      zero_pins : length zero.ins.items ≡ 3
      zero_pins = register_pins n is zero (Contains-from_slice_get n.cells bit.rail0.0 zero zero_at) zero_register

      one_pins : length one.ins.items ≡ 3
      one_pins = register_pins n is one (Contains-from_slice_get n.cells bit.rail1.0 one one_at) one_register

      pub zero_pin : (pins : List NetId) → pins ≡ zero.ins.items → 0 < length pins
      zero_pin pins are_pins = omega (arith, zero_pins, ap length are_pins)

      pub one_pin : (pins : List NetId) → pins ≡ one.ins.items → 0 < length pins
      one_pin pins are_pins = omega (arith, one_pins, ap length are_pins)

      -- and the nets on their A pins are its inputs
      pub inputs_read : (zeros ones : List NetId) → zeros ≡ zero.ins.items → ones ≡ one.ins.items → AreInputsOf n bit (record { zero = get_or zeros 0 no_net; one = get_or ones 0 no_net })
      inputs_read zeros ones are_zeros are_ones = record {
        zero = λ c at. subst (λ (x : Cell). OnPin x A (get_or zeros 0 no_net).0) (same_cell n bit.rail0.0 bit.rail0.0 zero c (λ i. bit.rail0.0) zero_at at) (on_pin_of zero 0 zeros are_zeros (omega (arith, zero_pins)));
        one = λ c at. subst (λ (x : Cell). OnPin x A (get_or ones 0 no_net).0) (same_cell n bit.rail1.0 bit.rail1.0 one c (λ i. bit.rail1.0) one_at at) (on_pin_of one 0 ones are_ones (omega (arith, one_pins)));
      }

      -- so they are the rails on either side
      pub on_side : (side : Side) → AreOnSide n side bit (record { zero = net_on side zero; one = net_on side one })
      on_side Driven = rails_read
      on_side Read = inputs_read zero.ins.items one.ins.items refl refl
