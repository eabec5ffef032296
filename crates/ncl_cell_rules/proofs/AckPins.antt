-- The pins of acknowledge cells: by the third rule the output of each register cell is on exactly one of them.
use Rattle.ncl_cell_rules.proofs.Terms.{A, Ack, AcksBank, B, Cell, CellAt, CellKind, Contains-from_Member, Contains-from_slice_get, Gate, IsAck, IsCell, IsFree, IsNetlist, IsOfBank, IsRegister, List, Member, Member-from_Contains, NetId, NetlistData, OnPin, ReadsOneBit, Register, RegisterData, [], ack_pins, ack_pins_of, ap, arith, cases_lt, cond, count_from_member, eq-eqb, eqb-true, get_or-le-sum_by, get_or_from_slice_get, here, inl, inr, length, member_from_count, nat_lt, pins_of, pins_with, place_is_one, refl, slice_get, slice_get-from_Contains, slice_get_within, subst, suc, sum_by, sum_by-cons, sum_by-le-sum_by, there, zero, ℕ, ◌+◌, ◌<◌, ◌==◌, ◌∷◌, ◌≡◌, ◌≤◌, ◌⊎◌}
use Rattle.std.specs.Prelude.{Some}
use Rattle.ncl_cell_rules.proofs.Drivers.{cell_fits, same_driver}
use Rattle.ncl_cell_rules.proofs.OriginLaws.{place_of}
use Rattle.ncl_cell_rules.proofs.NetOrigins.{bank_is_one}
use Rattle.ncl_cell_rules.proofs.CellTests.{same_net}

-- a sum that is at most one has at most one term that is not 0
term_is_one : {X : Type 0} (f : X → ℕ) (xs : List X) → sum_by f xs ≤ 1 → (i j : ℕ) (x y : X) → slice_get xs i ≡ Some x → slice_get xs j ≡ Some y → 1 ≤ f x → 1 ≤ f y → i ≡ j
term_is_one {X} f xs few i j x y at_x at_y some_x some_y =
    let fewer = sum_by-le-sum_by (λ z. cond (nat_lt 0 (f z)) 1 0) f xs (λ z. grind arith) in
    place_is_one (λ z. nat_lt 0 (f z)) xs (omega (arith, few, fewer)) i j x y at_x at_y (grind (arith, some_x)) (grind (arith, some_y))

-- and a sum that is not 0 has one
some_term : {X : Type 0} (f : X → ℕ) (xs : List X) → 1 ≤ sum_by f xs → (x : X) × Member x xs × (1 ≤ f x)
some_term f [] some = absurd (omega arith)
some_term f (x ∷ xs) some =
    let whole : sum_by f (x ∷ xs) ≡ f x + sum_by f xs = sum_by-cons f x xs in
    elim (cases_lt 0 (f x)) [
      | inl positive ↦ (x, here, omega (arith, positive))
      | inr none ↦ let (y, m, positive) = some_term f xs (omega (arith, some, whole, none)) in (y, there m, positive)
    ]

-- the pins of an acknowledge cell with a net
on_pin_counts : (c : Cell) (pin net : ℕ) → OnPin c pin net → 1 ≤ pins_with net c.ins.items
on_pin_counts c pin net on =
    count_from_member (λ (x : NetId). x.0 == net) (record { 0 = net }) (Member-from_Contains c.ins.items (record { 0 = net }) (Contains-from_slice_get c.ins.items pin (record { 0 = net }) on)) (eq-eqb net net refl)

pins_of_ack : (c : Cell) (net : ℕ) → IsAck c → ack_pins_of c.kind net c.ins.items ≡ pins_with net c.ins.items
pins_of_ack c net is_ack = ap (λ k. ack_pins_of k net c.ins.items) is_ack

-- a cell with such pins is an acknowledge cell
ack_from_pins : (kind : CellKind) (net : ℕ) (ins : List NetId) → 1 ≤ ack_pins_of kind net ins → (kind ≡ Ack) × (1 ≤ pins_with net ins)
ack_from_pins Ack net ins some = (refl, some)
ack_from_pins Register net ins some = absurd (omega (arith, some))
ack_from_pins RegisterData net ins some = absurd (omega (arith, some))
ack_from_pins (Gate kind) net ins some = absurd (omega (arith, some))

module _ (n : NetlistData) (is : IsNetlist n) (free : IsFree n) where
  one_pin : (r : Cell) → IsCell n r → IsRegister r → ack_pins n r.out.0 ≡ 1
  one_pin r in_r is_register = let (k, at) = place_of n r in_r in (free.paired k r at).register is_register

  -- the output of a register cell is on one pin of one acknowledge cell
  pub ack_pin_is_one : (r c d : Cell) (i j x y : ℕ) → IsCell n r → IsRegister r → CellAt n i c → IsAck c → CellAt n j d → IsAck d → OnPin c x r.out.0 → OnPin d y r.out.0 → (i ≡ j) × (x ≡ y)
  ack_pin_is_one r c d i j x y in_r is_register at_c ack_c at_d ack_d on_c on_d =
      let one = one_pin r in_r is_register in
      let pins_c = pins_of_ack c r.out.0 ack_c in
      let pins_d = pins_of_ack d r.out.0 ack_d in
      let some_c = on_pin_counts c x r.out.0 on_c in
      let some_d = on_pin_counts d y r.out.0 on_d in
      let places : i ≡ j = term_is_one pins n.cells (omega (arith, one)) i j c d at_c at_d (omega (arith, pins_c, some_c)) (omega (arith, pins_d, some_d)) in
      let cells : slice_get n.cells i ≡ slice_get n.cells j = ap (slice_get n.cells) places in
      let same : d ≡ c = cc in
      let whole = get_or-le-sum_by pins n.cells i c (slice_get_within n.cells i c at_c) in
      let own = ap pins (get_or_from_slice_get n.cells i c c at_c) in
      let on_same : OnPin c y r.out.0 = subst (λ (z : Cell). OnPin z y r.out.0) same on_d in
      let own_net = eq-eqb r.out.0 r.out.0 refl in
      (places, place_is_one (λ (z : NetId). z.0 == r.out.0) c.ins.items (omega (arith, whole, own, one, pins_c)) x y (record { 0 = r.out.0 }) (record { 0 = r.out.0 }) on_c on_same own_net own_net)
    where
      pins : Cell → ℕ
      pins z = ack_pins_of z.kind r.out.0 z.ins.items

  -- and the acknowledge cell is one of its bank
  pub ack_of_register : (r : Cell) (bank : ℕ) → IsOfBank n bank r → (k : ℕ) × (c : Cell) × CellAt n k c × AcksBank n bank c × (OnPin c A r.out.0 ⊎ OnPin c B r.out.0)
  ack_of_register r bank of_r =
      let one = one_pin r of_r.0 of_r.1 in
      let (c, m, some) = some_term (λ (z : Cell). ack_pins_of z.kind r.out.0 z.ins.items) n.cells (omega (arith, one)) in
      let in_c : IsCell n c = Contains-from_Member c m in
      let (is_ack, pins) = ack_from_pins c.kind r.out.0 c.ins.items some in
      let (k, at) = place_of n c in_c in
      let (x, in_ins, passes) = member_from_count (λ (z : NetId). z.0 == r.out.0) c.ins.items pins in
      let (pin, on) = slice_get-from_Contains c.ins.items x (Contains-from_Member x in_ins) in
      let on_net : OnPin c pin r.out.0 = subst (OnPin c pin) (eqb-true x.0 r.out.0 passes) on in
      let (acks, side) = by_pin c in_c is_ack ((free.paired k c at).ack is_ack) pin on_net in
      (k, c, at, acks, side)
    where
      by_pin : (c : Cell) → IsCell n c → IsAck c → ReadsOneBit n c → (pin : ℕ) → OnPin c pin r.out.0 → AcksBank n bank c × (OnPin c A r.out.0 ⊎ OnPin c B r.out.0)
      by_pin c in_c is_ack bit zero on = ((in_c, is_ack, (r, of_r, on)), inl on)
      by_pin c in_c is_ack bit (suc zero) on =
          let same : bit.one ≡ r = same_driver n is bit.one r bit.one_of.0 of_r.0 (same_net c B bit.one.out.0 r.out.0 bit.on_b on) in
          let banks : bit.request ≡ bank = bank_is_one n is r bit.request bank (subst (IsOfBank n bit.request) same bit.one_of) of_r in
          ((in_c, is_ack, (bit.zero, subst (λ b. IsOfBank n b bit.zero) banks bit.zero_of, bit.on_a)), inr on)
      by_pin c in_c is_ack bit (suc (suc pin)) on =
          let pins : length c.ins.items + 1 ≡ length (pins_of c.kind) = (cell_fits n is c in_c).pins in
          let three : length (pins_of c.kind) ≡ 3 = ap (λ k. length (pins_of k)) is_ack in
          let within : suc (suc pin) < length c.ins.items = slice_get_within c.ins.items (suc (suc pin)) (record { 0 = r.out.0 }) on in
          absurd (omega (arith, pins, three, within))
