-- The cells of a bank by place: two register cells for each bit, its acknowledge cell, and the tree.
use Rattle.ncl_compile.proofs.Terms.{Ack, All-at, AreBankParts, BankParts, List, NamePair, PartCell, Register, Some, [], ap, append_assoc, arith, at_map, at_of_map, bank_pins, drop, drop_at, get_or, get_or_from_slice_get, input_names, length, length-append, length-map, pair_list, refl, slice_get, subst, suc, sym, zero, ℕ, ◌*◌, ◌++◌, ◌+◌, ◌∙◌, ◌∷◌, ◌≡◌}
use Rattle.ncl_compile.proofs.StandingCells.{StandAt, StandAt-whole, StandAt-left, StandAt-right}

-- the pins of the two register cells of a bit
pins_of_bit : (request rst : List ℕ) (ins outs : List NamePair) (j : ℕ) (x y : NamePair) → slice_get ins j ≡ Some x → slice_get outs j ≡ Some y → (slice_get (bank_pins ins outs request rst) (2 * j) ≡ Some (x.zero ∷ request ∷ rst ∷ y.zero ∷ [])) × (slice_get (bank_pins ins outs request rst) (2 * j + 1) ≡ Some (x.one ∷ request ∷ rst ∷ y.one ∷ []))
pins_of_bit request rst [] outs j x y at_x at_y = absurd cc
pins_of_bit request rst (a ∷ ins) [] j x y at_x at_y = absurd cc
pins_of_bit request rst (a ∷ ins) (b ∷ outs) zero x y at_x at_y =
    let first : a ≡ x = cc in
    let second : b ≡ y = cc in
    (λ i. Some ((first i).zero ∷ request ∷ rst ∷ (second i).zero ∷ []), λ i. Some ((first i).one ∷ request ∷ rst ∷ (second i).one ∷ []))
pins_of_bit request rst (a ∷ ins) (b ∷ outs) (suc j) x y at_x at_y =
    let pins = slice_get (bank_pins (a ∷ ins) (b ∷ outs) request rst) in
    let first : 2 * suc j ≡ suc (suc (2 * j)) = omega arith in
    let second : 2 * suc j + 1 ≡ suc (suc (2 * j + 1)) = omega arith in
    let rest = pins_of_bit request rst ins outs j x y at_x at_y in
    (ap pins first ∙ rest.0, ap pins second ∙ rest.1)

length-bank_pins : (request rst : List ℕ) (ins outs : List NamePair) → length ins ≡ length outs → length (bank_pins ins outs request rst) ≡ 2 * length ins
length-bank_pins request rst [] outs same = refl
length-bank_pins request rst (a ∷ ins) [] same = absurd (omega arith)
length-bank_pins request rst (a ∷ ins) (b ∷ outs) same = let rest = length-bank_pins request rst ins outs (omega arith) in omega (arith, rest)

module _ (ins outs : List NamePair) (request rst root prefix : List ℕ) (parts : BankParts) (are : AreBankParts ins outs request rst root prefix parts)
    (width : ℕ) (long_ins : length ins ≡ width) (long_outs : length outs ≡ width) where
  pub length-registers : length are.registers ≡ 2 * width
  length-registers =
      omega (arith, length-map are.registers (λ (cell : PartCell). cell.pins), ap length are.register_pins, length-bank_pins request rst ins outs (omega (arith, long_ins, long_outs)), long_ins)

  pub length-acks : length are.acks ≡ width
  length-acks = omega (arith, length-map are.acks input_names, ap length are.ack_inputs, length-map outs pair_list, long_outs)

  -- the tree are the cells after the first three for each bit
  pub tree_is : drop (3 * width) parts.cells ≡ are.tree
  tree_is =
      ap (drop (3 * width)) (are.cells ∙ sym (append_assoc are.registers are.acks are.tree))
      ∙ drop_at (are.registers ++ are.acks) are.tree (3 * width) (omega (arith, length-append are.registers are.acks, length-registers, length-acks))

  pub length-cells : length parts.cells ≡ 3 * width + length are.tree
  length-cells =
      omega (arith, ap length are.cells, length-append are.registers (are.acks ++ are.tree), length-append are.acks are.tree, length-registers, length-acks)

  -- the register cells of a bit
  pub register_zero : (j : ℕ) (x y : NamePair) → slice_get ins j ≡ Some x → slice_get outs j ≡ Some y → (c : PartCell) × (slice_get are.registers (2 * j) ≡ Some c) × (c.kind ≡ Register) × (c.pins ≡ x.zero ∷ request ∷ rst ∷ y.zero ∷ [])
  register_zero j x y at_x at_y =
      let (c, at, pins) = at_of_map (λ (cell : PartCell). cell.pins) are.registers (2 * j) (x.zero ∷ request ∷ rst ∷ y.zero ∷ []) (ap (λ l. slice_get l (2 * j)) are.register_pins ∙ (pins_of_bit request rst ins outs j x y at_x at_y).0) in
      (c, at, All-at (λ (cell : PartCell). cell.kind ≡ Register) are.registers are.register_kinds (2 * j) c at, pins)

  pub register_one : (j : ℕ) (x y : NamePair) → slice_get ins j ≡ Some x → slice_get outs j ≡ Some y → (c : PartCell) × (slice_get are.registers (2 * j + 1) ≡ Some c) × (c.kind ≡ Register) × (c.pins ≡ x.one ∷ request ∷ rst ∷ y.one ∷ [])
  register_one j x y at_x at_y =
      let (c, at, pins) = at_of_map (λ (cell : PartCell). cell.pins) are.registers (2 * j + 1) (x.one ∷ request ∷ rst ∷ y.one ∷ []) (ap (λ l. slice_get l (2 * j + 1)) are.register_pins ∙ (pins_of_bit request rst ins outs j x y at_x at_y).1) in
      (c, at, All-at (λ (cell : PartCell). cell.kind ≡ Register) are.registers are.register_kinds (2 * j + 1) c at, pins)

  -- and its acknowledge cell
  pub ack_cell : (j : ℕ) (y : NamePair) → slice_get outs j ≡ Some y → (c : PartCell) × (slice_get are.acks j ≡ Some c) × (c.kind ≡ Ack) × (input_names c ≡ y.zero ∷ y.one ∷ [])
  ack_cell j y at_y =
      let (c, at, pins) = at_of_map input_names are.acks j (pair_list y) (ap (λ l. slice_get l j) are.ack_inputs ∙ at_map pair_list outs j y at_y) in
      (c, at, All-at (λ (cell : PartCell). cell.kind ≡ Ack) are.acks are.ack_kinds j c at, pins)

  -- where they stand in a list in which the bank does
  module _ (whole : List PartCell) (first : ℕ) (stands : StandAt whole first parts.cells) where
    own : StandAt whole first (are.registers ++ (are.acks ++ are.tree))
    own = subst (StandAt whole first) are.cells stands

    pub registers_stand : StandAt whole first are.registers
    registers_stand = StandAt-left whole are.registers (are.acks ++ are.tree) first own

    others_stand : StandAt whole (first + 2 * width) (are.acks ++ are.tree)
    others_stand = subst (λ k. StandAt whole (first + k) (are.acks ++ are.tree)) length-registers (StandAt-right whole are.registers (are.acks ++ are.tree) first own)

    pub acks_stand : StandAt whole (first + 2 * width) are.acks
    acks_stand = StandAt-left whole are.acks are.tree (first + 2 * width) others_stand

    pub tree_stands : StandAt whole (first + 3 * width) are.tree
    tree_stands =
        let place : first + 2 * width + length are.acks ≡ first + 3 * width = omega (arith, length-acks) in
        subst (λ k. StandAt whole k are.tree) place (StandAt-right whole are.acks are.tree (first + 2 * width) others_stand)

  -- the acknowledge cell of a bit is the cell after the register cells and those of earlier bits
  pub ack_is : (j : ℕ) (c d : PartCell) → slice_get are.acks j ≡ Some c → get_or parts.cells (2 * width + j) d ≡ c
  ack_is j c d at =
      let place : 2 * width + j ≡ 0 + 2 * width + j = omega arith in
      get_or_from_slice_get parts.cells (2 * width + j) c d (ap (slice_get parts.cells) place ∙ acks_stand parts.cells 0 (StandAt-whole parts.cells) j c at)
