-- How many input pins a cell has, and that the nets on them are there.
use Rattle.ncl_cell_rules.proofs.Terms.{All, Cell, IsAck, IsCell, IsNetlist, IsRegister, List, NetId, NetlistData, OnPin, ap, arith, get_or, get_or_from_slice_get, length, pins_of, register_pins_of, slice_get-get_or, slice_get_within, subst, sym, ℕ, ◌<◌, ◌≡◌}
use Rattle.ncl_cell_rules.proofs.Drivers.{cell_fits}
use Rattle.ncl_cell_rules.proofs.TableSteps.{read_is_cell}

-- a net that is none
abbrev pub no_net : NetId
no_net = record { 0 = 0 }

module _ (n : NetlistData) (is : IsNetlist n) (c : Cell) (in_c : IsCell n c) where
  pub register_pins : IsRegister c → length c.ins.items ≡ 3
  register_pins register =
      let pins = (cell_fits n is c in_c).pins in
      let four : length (pins_of c.kind) ≡ 4 = ap length (register_pins_of c.kind register) in
      omega (arith, pins, four)

  pub ack_pins : IsAck c → length c.ins.items ≡ 2
  ack_pins is_ack =
      let pins = (cell_fits n is c in_c).pins in
      let three : length (pins_of c.kind) ≡ 3 = ap (λ k. length (pins_of k)) is_ack in
      omega (arith, pins, three)

  pub output_within : c.out.0 < length n.nets
  output_within = (cell_fits n is c in_c).output

  pub pins_within : All (λ (net : NetId). net.0 < length n.nets) c.ins.items
  pins_within = (cell_fits n is c in_c).inputs

  -- in a table with an entry for each net, for a list that is read in place of the pins
  pub pins_fit : (pins : List NetId) → pins ≡ c.ins.items → (size : ℕ) → size ≡ length n.nets → All (λ (net : NetId). net.0 < size) pins
  pins_fit pins are size sized = subst (λ s. All (λ (net : NetId). net.0 < s) pins) (sym sized) (subst (All (λ (net : NetId). net.0 < length n.nets)) (sym are) pins_within)

  pub pin_within : (pin : ℕ) → pin < length c.ins.items → (get_or c.ins.items pin no_net).0 < length n.nets
  pin_within pin lt = (cell_fits n is c in_c).inputs pin no_net lt

  -- the same of a list that is read in place of the pins
  pub pin_inside : (pin : ℕ) (pins : List NetId) → pins ≡ c.ins.items → pin < length c.ins.items → (get_or pins pin no_net).0 < length n.nets
  pin_inside pin pins are lt = subst (λ l. (get_or l pin no_net).0 < length n.nets) (sym are) (pin_within pin lt)

-- the same of the pins of a cell that a loop reads
pub read_pins_fit : (n : NetlistData) → IsNetlist n → (cells : List Cell) (k : ℕ) (c : Cell) → cells ≡ n.cells → k < length cells → c ≡ get_or cells k c
    → (pins : List NetId) → pins ≡ c.ins.items → (size : ℕ) → size ≡ length n.nets → All (λ (net : NetId). net.0 < size) pins
read_pins_fit n is cells k c same within read = pins_fit n is c (read_is_cell n cells k c same within read)

-- a net on a pin of a cell is there
pub on_pin_within : (n : NetlistData) → IsNetlist n → (c : Cell) → IsCell n c → (pin net : ℕ) → OnPin c pin net → net < length n.nets
on_pin_within n is c in_c pin net on =
    let id : NetId = record { 0 = net } in
    subst (λ (x : NetId). x.0 < length n.nets) (get_or_from_slice_get c.ins.items pin id id on) ((cell_fits n is c in_c).inputs pin id (slice_get_within c.ins.items pin id on))

-- the net that is read on a pin is on it
pub on_pin : (c : Cell) (pin : ℕ) → pin < length c.ins.items → OnPin c pin (get_or c.ins.items pin no_net).0
on_pin c pin lt = slice_get-get_or c.ins.items pin no_net lt

pub on_pin_of : (c : Cell) (pin : ℕ) (pins : List NetId) → pins ≡ c.ins.items → pin < length c.ins.items → OnPin c pin (get_or pins pin no_net).0
on_pin_of c pin pins are lt = subst (λ l. OnPin c pin (get_or l pin no_net).0) (sym are) (on_pin c pin lt)

-- the nets that are read on the pins of register and acknowledge cells
module _ (n : NetlistData) (is : IsNetlist n) (c : Cell) (in_c : IsCell n c) (pin : ℕ) (pins : List NetId) (are : pins ≡ c.ins.items) where
  pub register_on : IsRegister c → pin < 3 → OnPin c pin (get_or pins pin no_net).0
  register_on register few = let three = register_pins n is c in_c register in on_pin_of c pin pins are (omega (arith, few, three))

  pub register_inside : IsRegister c → pin < 3 → (get_or pins pin no_net).0 < length n.nets
  register_inside register few = let three = register_pins n is c in_c register in pin_inside n is c in_c pin pins are (omega (arith, few, three))

  pub ack_on : IsAck c → pin < 2 → OnPin c pin (get_or pins pin no_net).0
  ack_on is_ack few = let two = ack_pins n is c in_c is_ack in on_pin_of c pin pins are (omega (arith, few, two))
